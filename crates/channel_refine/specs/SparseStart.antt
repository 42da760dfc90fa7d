-- The start of a walk over sparse levels that carries a table.
use Rattle.std.specs.Prelude.{◌≡◌, []}
use Rattle.level_topology.specs.Topology.{Topology}
use Rattle.level_walk.specs.declared.reached.Reached.{Reached}
use Rattle.sparse_level.specs.View.{base_of}
use Rattle.sparse_walk.specs.View.{Walked, walked}
use Rattle.stencil_apply.specs.Table.{Table, IsTable}
use Rattle.stencil_factory.specs.Composed.{identity_table}

-- the whole level 0 with the table of its own points
pub record IsStart (base : Topology) (start : Reached Walked Table) : Type 0 where
  pub level : start.level ≡ walked (base_of base) []
  pub table : start.carried ≡ identity_table base.level.point_count
  pub made : IsTable start.carried
