-- The fault of a channel that does not reach a depth: the first fault of its levels. `Asked` chooses the faults that count:
-- those of sharpness, also those of values, or also those of tables. Source: this library.
use Rattle.std.specs.Prelude.{ℕ, ◌≡◌, ◌-◌, ◌^◌, ◌<◌, ◌≤◌, [], length, Some}
use Rattle.std.specs.List.{sum_by}
use Rattle.subdiv_model.specs.Lists.{first_of}
use Rattle.subdiv_model.specs.Level.{Level}
use Rattle.subdiv_model.specs.Fault as model
use Rattle.subdiv_model.specs.Fault.{Fault, Track}
use Rattle.subdiv_model.specs.Channel.{Channel, Asked, Sharpnesses, channel_level, channel_faults}
use Rattle.level_walk.specs.View.{kind_of}
use Rattle.level_walk.specs.declared.fault.Cause.{Cause}
use Rattle.level_walk.specs.declared.fault.Cause.TheVariants.{TooManyFaces, Overflow, TooManyEntries, Memory}
use Rattle.level_walk.specs.declared.fault.WalkFault.{WalkFault}

-- the number of faces of the level after k + 1 steps: one for each corner of the level before
abbrev pub faces_next : Channel → ℕ → ℕ
faces_next channel k = sum_by length (channel_level channel k).polygons

-- no level from 1 to this one has too many faces, or a fault of the kinds that count
pub record Reaches (asked : Asked) (channel : Channel) (level : ℕ) : Type 0 where
  pub few : (k : ℕ) → k < level → faces_next channel k ≤ 2 ^ 22
  pub fine : (track : Track) → channel_faults asked channel track level ≡ []

-- the level has this number of faces, and it is too many
pub record IsTooLarge (channel : Channel) (level count : ℕ) : Type 0 where
  pub after_level_0 : 1 ≤ level
  pub count_is : count ≡ faces_next channel (level - 1)
  pub many : 2 ^ 22 < count

-- The level is within the bound of faces, and this is the first fault of the levels to a depth, of the kinds that count. It
-- does not depend on the name of the track.
pub record IsFirstFault (asked : Asked) (channel : Channel) (depth level : ℕ) (fault : Track → Fault) : Type 0 where
  pub few : faces_next channel (level - 1) ≤ 2 ^ 22
  pub first : (track : Track) → first_of (channel_faults asked channel track depth) ≡ Some (fault track)

-- the cause that the level is not reached; memory may run out at any level
abbrev pub IsCauseAt : Asked → Channel → ℕ → ℕ → Cause → Type 0
IsCauseAt asked channel depth level (TooManyFaces count) = IsTooLarge channel level count
IsCauseAt asked channel depth level (Overflow kind) = IsFirstFault asked channel depth level (λ track. model.Overflow track level (kind_of kind))
IsCauseAt asked channel depth level TooManyEntries = IsFirstFault asked channel depth level (λ track. model.TooLarge (model.Entries level))
IsCauseAt asked channel depth level Memory = Unit {0}

-- The channel reaches the level before this one, and this is the cause that it does not reach this one.
pub record IsLevelFault (asked : Asked) (channel : Channel) (depth level : ℕ) (cause : Cause) : Type 0 where
  pub within : level ≤ depth
  pub before : Reaches asked channel (level - 1)
  pub is : IsCauseAt asked channel depth level cause

-- the fault of a channel that does not reach a depth
abbrev pub IsChannelFault : Asked → Channel → ℕ → WalkFault → Type 0
IsChannelFault asked channel depth fault = IsLevelFault asked channel depth fault.level fault.cause

-- the fault of all channels over this level that do not reach a depth: the first fault of sharpness
abbrev pub IsFaultOfLevels : Level → ℕ → WalkFault → Type 0
IsFaultOfLevels base depth fault = (channel : Channel) → channel.base ≡ base → IsChannelFault Sharpnesses channel depth fault
