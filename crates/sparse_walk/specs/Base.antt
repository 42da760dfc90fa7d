-- A level from which a walk over sparse levels starts.
use Rattle.std.specs.Prelude.{◌≡◌, true, replicate, IsTrue}
use Rattle.mask_laws.specs.SharpBoundary.{has_sharp_boundary}
use Rattle.level_topology.specs.Topology.{Topology}

-- each point is complete, and the boundary is infinitely sharp
pub record IsSparseBase (base : Topology) : Type 0 where
  pub complete : base.complete ≡ replicate base.level.point_count true
  pub boundary : IsTrue (has_sharp_boundary base.level)
