-- The table of a channel at a depth.
-- Source: this profile.
use Rattle.std.specs.Prelude.{ℕ, ◌≡◌, ◌*◌, ◌^◌, ◌<◌, ◌≤◌, true, ℤ, List, [], length, replicate, max, IsTrue}
use Rattle.std.specs.List.{sum_by}
use Rattle.subdiv_model.specs.Fault.{Track}
use Rattle.subdiv_model.specs.Refined.{refined_values, control_values}
use Rattle.subdiv_model.specs.Support.{refined_supports}
use Rattle.subdiv_model.specs.Channel.{Channel, Tables, number_bound, channel_level, denominators_after, channel_faults}
use Rattle.mask_laws.specs.SharpBoundary.{has_sharp_boundary}
use Rattle.level_topology.specs.Topology.{Topology}
use Rattle.stencil_apply.specs.Table.{Table, greatest_of}
use Rattle.stencil_factory.specs.Rows.{supports_of, dens_of, row_values, AreSameValues}

-- a level with the table of its points over the points of level 0
pub record ComposedTable : Type 0 where
  pub level : Topology
  pub table : Table

-- No level up to the depth has a fault, and no level before the last has too many corners. The level is the last one: its points are
-- complete, and its edges of one face are infinitely sharp. Each row of the table contains the controls that its point depends on, has
-- the point's common denominator, and gives the point's value for any controls. The greatest denominator times the greatest control
-- number, or times the channel's own denominator, is within the bound of numbers.
pub record IsComposedTo (channel : Channel) (depth : ℕ) (composed : ComposedTable) : Type 0 where
  pub fine : (track : Track) → channel_faults Tables channel track depth ≡ []
  pub few : (k : ℕ) → k < depth → sum_by length (channel_level channel k).polygons ≤ 2 ^ 22
  pub level_is : composed.level.level ≡ channel_level channel depth
  pub complete : composed.level.complete ≡ replicate composed.level.level.point_count true
  pub boundary : IsTrue (has_sharp_boundary composed.level.level)
  pub controls : composed.table.controls ≡ channel.base.point_count
  pub dens : dens_of composed.table ≡ denominators_after channel depth
  pub supports : supports_of composed.table ≡ refined_supports channel.base channel.scheme depth
  pub values : (numbers : List ℤ) → length numbers ≡ channel.base.point_count
      → AreSameValues (refined_values channel.base channel.scheme (control_values numbers) depth) (row_values composed.table numbers)
  pub fits : greatest_of composed.table * max channel.greatest channel.common ≤ number_bound
