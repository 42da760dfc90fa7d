-- The fault of sparse levels that do not reach a depth: their first fault. Source: this library.
use Rattle.std.specs.Prelude.{ℕ, ◌≡◌, ◌-◌, ◌≤◌, Bool, [], Some}
use Rattle.subdiv_model.specs.Lists.{first_of}
use Rattle.subdiv_model.specs.Level.{Level}
use Rattle.subdiv_model.specs.Feature.{FaceFacts}
use Rattle.subdiv_model.specs.Sparse.{FacePredicate, predicate_to}
use Rattle.subdiv_model.specs.SparseFaults.{sparse_faults}
use Rattle.subdiv_model.specs.Fault as model
use Rattle.subdiv_model.specs.Fault.{Fault, Track}
use Rattle.subdiv_model.specs.Channel.{Channel, Asked, Sharpnesses}
use Rattle.level_walk.specs.View.{kind_of}
use Rattle.level_walk.specs.declared.fault.Cause.{Cause}
use Rattle.level_walk.specs.declared.fault.Cause.TheVariants.{TooManyFaces, Overflow, TooManyEntries, Memory}
use Rattle.level_walk.specs.declared.fault.WalkFault.{WalkFault}

-- no sparse level from 1 to this one has a fault of the kinds that count
abbrev pub HasNoFaultTo : Asked → Channel → FacePredicate → ℕ → Type 0
HasNoFaultTo asked channel predicate level = (track : Track) → sparse_faults asked channel predicate track level ≡ []

-- This is the first fault of the sparse levels to a depth, of the kinds that count. It does not depend on the name of the
-- track.
abbrev pub IsFirstFault : Asked → Channel → FacePredicate → ℕ → (Track → Fault) → Type 0
IsFirstFault asked channel predicate depth fault = (track : Track) → first_of (sparse_faults asked channel predicate track depth) ≡ Some (fault track)

-- the cause that the level is not reached; memory may run out at any level
abbrev pub IsCauseAt : Asked → Channel → FacePredicate → ℕ → ℕ → Cause → Type 0
IsCauseAt asked channel predicate depth level (TooManyFaces count) = IsFirstFault asked channel predicate depth (λ track. model.TooLarge (model.LevelFaces level count))
IsCauseAt asked channel predicate depth level (Overflow kind) = IsFirstFault asked channel predicate depth (λ track. model.Overflow track level (kind_of kind))
IsCauseAt asked channel predicate depth level TooManyEntries = IsFirstFault asked channel predicate depth (λ track. model.TooLarge (model.Entries level))
IsCauseAt asked channel predicate depth level Memory = Unit {0}

-- The sparse levels before this one have no fault, and this is the cause that the channel does not reach this one.
pub record IsLevelFault (asked : Asked) (channel : Channel) (predicate : FacePredicate) (depth level : ℕ) (cause : Cause) : Type 0 where
  pub within : level ≤ depth
  pub before : HasNoFaultTo asked channel predicate (level - 1)
  pub is : IsCauseAt asked channel predicate depth level cause

-- the fault of each channel with this level 0
abbrev pub IsFaultAt : Asked → Level → FacePredicate → ℕ → ℕ → Cause → Type 0
IsFaultAt asked base predicate depth level cause = (channel : Channel) → channel.base ≡ base → IsLevelFault asked channel predicate depth level cause

-- the fault of the sparse levels by a test that do not reach a depth
abbrev pub IsSparseFault : Asked → Level → (FaceFacts → Bool) → ℕ → WalkFault → Type 0
IsSparseFault asked base test depth fault = IsFaultAt asked base (predicate_to test base depth) depth fault.level fault.cause

-- the sparse levels by a test reach the depth
abbrev pub HasNoSparseFault : Level → (FaceFacts → Bool) → ℕ → Type 0
HasNoSparseFault base test depth = (channel : Channel) → channel.base ≡ base → HasNoFaultTo Sharpnesses channel (predicate_to test base depth) depth
