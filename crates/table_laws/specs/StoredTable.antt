-- Tables that can be stored.
-- Source: Drillolive.
use Rattle.std.specs.Prelude.{◌^◌, ◌≤◌}
use Rattle.subdiv_model.specs.Table.{Table, IsTable}

-- a table within its limits, of at most 2^20 control points
pub record IsStored (table : Table) : Type 0 where
  pub is_table : IsTable table
  pub controls_few : table.controls ≤ 2 ^ 20
