-- A channel refined to a depth.
-- Source: this profile.
use Rattle.std.specs.Prelude.{ℕ, ◌≡◌, ◌+◌, ◌*◌, ◌^◌, ◌<◌, ◌≤◌, ℤ, pos, true, List, [], length, map, get_or, max, replicate, OnOk, Result, MatchResult}
use Rattle.std.specs.List.{All, sum_by, range_with_len}
use Rattle.subdiv_model.specs.Level.{Level}
use Rattle.subdiv_model.specs.Child.{refined_level}
use Rattle.subdiv_model.specs.Mask.{Scheme, mask_terms}
use Rattle.subdiv_model.specs.Refined.{refined_values, control_values}
use Rattle.subdiv_model.specs.Support.{entries_after}
use Rattle.subdiv_model.specs.Fault.{Track}
use Rattle.subdiv_model.specs.Channel.{Channel, Asked, Sharpnesses, Values, Tables, number_bound, channel_level, denominators_after, channel_faults}
use Rattle.level_topology.specs.Topology.{Topology}
use Rattle.primvar_refine.specs.Rows.{Row, row_at, dens_of, StandFor, AreWithin}
use Rattle.level_walk.specs.declared.fault.WalkFault.{WalkFault}
use Rattle.level_walk.specs.UniformFaults.{IsChannelFault}
use Rattle.level_walk.specs.UniformLevels.{faces_to}

-- the numbers of a column
abbrev pub column_of : ℕ → List Row → List ℤ
column_of column rows = map (λ row. get_or row.numbers column (pos 0)) rows

-- a control for each point of level 0: whole numbers, as many for each, none above the channel's greatest amount
pub record AreControls (channel : Channel) (controls : List Row) : Type 0 where
  pub each : length controls ≡ channel.base.point_count
  pub whole : All (λ row. row.den ≡ 1) controls
  pub within : AreWithin channel.greatest controls
  pub alike : All (λ row. length row.numbers ≡ length (row_at controls 0).numbers) controls

-- a level with the values of its points
pub record RefinedRows : Type 0 where
  pub level : Topology
  pub rows : List Row

-- No level up to the depth has a fault that is asked for, and no level before the last has too many corners. The level is the last one,
-- and its points are complete. Each column of the rows contains the values that the definitions refine, over the common denominators.
pub record IsRefinedTo (asked : Asked) (channel : Channel) (controls : List Row) (depth : ℕ) (refined : RefinedRows) : Type 0 where
  pub fine : (track : Track) → channel_faults asked channel track depth ≡ []
  pub few : (k : ℕ) → k < depth → sum_by length (channel_level channel k).polygons ≤ 2 ^ 22
  pub level_is : refined.level.level ≡ channel_level channel depth
  pub complete : refined.level.complete ≡ replicate refined.level.level.point_count true
  pub dens : dens_of refined.rows ≡ denominators_after channel depth
  pub values : (column : ℕ) → StandFor refined.rows column (refined_values channel.base channel.scheme (control_values (column_of column controls)) depth)
  pub within : AreWithin channel.greatest refined.rows
  pub short : All (λ row. row.den * max channel.greatest channel.common ≤ number_bound) refined.rows
  pub positive : All (λ row. 0 < row.den) refined.rows
  pub alike : All (λ row. length row.numbers ≡ length (row_at controls 0).numbers) refined.rows

-- The channel at the depth, or the first fault of its levels. The last function gives the level and its values as rows.
abbrev pub IsRefinement : {X : Type 0} → Asked → Channel → List Row → ℕ → Result X WalkFault → (X → RefinedRows) → Type 0
IsRefinement asked channel controls depth result shown =
    MatchResult result (λ refined. IsRefinedTo asked channel controls depth (shown refined)) (λ fault. IsChannelFault asked channel depth fault)

-- the number of mask terms of the levels from 1 to a depth
abbrev pub terms_to : Level → Scheme → ℕ → ℕ
terms_to base scheme depth = sum_by (λ k. mask_terms (refined_level base k) scheme) (range_with_len 0 depth)

-- the steps of a path: one for each mask term of values, or one for each entry of the last table
abbrev pub path_steps : Asked → Channel → ℕ → ℕ
path_steps Sharpnesses channel depth = 0
path_steps Values channel depth = terms_to channel.base channel.scheme depth
path_steps Tables channel depth = entries_after channel.base channel.scheme depth

-- On success the call takes at least the steps of the path. It never takes more than these and one for each face of the levels from 1 to
-- the depth.
pub record AreRefineSteps {X E : Type 0} (asked : Asked) (channel : Channel) (depth : ℕ) (result : Result X E) (old new : ℕ) : Type 0 where
  pub least : OnOk result (old + path_steps asked channel depth ≤ new)
  pub most : new ≤ old + faces_to channel.base depth + path_steps asked channel depth
  pub later : old ≤ new
