-- A channel before refinement.
-- Source: this profile.
use Rattle.std.specs.Prelude.{ℕ, ◌≡◌, ◌^◌, ◌≤◌, true, replicate, max, IsTrue}
use Rattle.subdiv_model.specs.Level.{Level}
use Rattle.subdiv_model.specs.Manifold.{IsManifold}
use Rattle.subdiv_model.specs.Mask.{Scheme}
use Rattle.subdiv_model.specs.Channel.{Channel, number_bound}
use Rattle.mask_laws.specs.SharpBoundary.{has_sharp_boundary}
use Rattle.level_topology.specs.Topology.{Topology}

-- the channel of a level 0, a scheme, a greatest control number and a common denominator
abbrev pub channel_of : Level → Scheme → ℕ → ℕ → Channel
channel_of base scheme greatest common = record { base = base; scheme = scheme; greatest = greatest; common = common }

-- a level 0 that can be refined: a manifold with a sharp boundary, every point complete
pub record IsBase (base : Topology) : Type 0 where
  pub points : base.level.point_count ≤ 2 ^ 27
  pub complete : base.complete ≡ replicate base.level.point_count true
  pub manifold : IsManifold base.level.point_count base.level.polygons
  pub boundary : IsTrue (has_sharp_boundary base.level)

-- a level 0 that can be refined, with a greatest control number and a denominator within the bound of numbers
pub record IsBaseOf (level : Topology) (greatest common : ℕ) : Type 0 where
  pub base : IsBase level
  pub short : max greatest common ≤ number_bound
