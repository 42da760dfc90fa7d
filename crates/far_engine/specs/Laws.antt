-- The answer of a run whose counts of faults do not rise.
use Rattle.std.specs.Prelude.{ℕ, ◌≡◌, ◌+◌, ◌<◌, ◌⊎◌, List, length, Option, Some, None}
use Rattle.far_io.specs.Bytes.{Added, Rose}
use Rattle.far_io.specs.Memory.{SureOutput}
use Rattle.far_io.specs.declared.source.Source.{Ghosts as Source}
use Rattle.far_io.specs.declared.sink.Sink.{Ghosts as Sink}
use Rattle.subdiv_model.specs.Fault.{Fault, Memory}
use Rattle.far_model.specs.Refusal.{Answer}
use Rattle.far_model.specs.Answer.{answer}
use Rattle.far_engine.specs.Runs.{Runs}

-- the refusal that is defined, or the whole text; or no memory, and the sink is as it was
abbrev pub IsAnsweredBy : {K : Type 0} → Sink K → Answer → K → K → Option Fault → Type 0
IsAnsweredBy sink answer k k' outcome =
    ((outcome ≡ answer.refusal) × (outcome ≡ None → Added (sink.held k) (sink.held k') answer.text)) ⊎ ((outcome ≡ Some Memory) × (k' ≡ k))

-- a run of words over a source that gives all its bytes, in which neither count of faults rises
pub record RunWithoutFaults {S K : Type 0} (source : Source S) (sink : Sink K) : Type 0 where
  pub words : List (List ℕ)
  pub bytes : List ℕ
  pub first : S
  pub last : S
  pub before : K
  pub after : K
  pub outcome : Option Fault
  pub runs : Runs source sink words first last before after outcome
  pub known : source.left first ≡ Some bytes
  pub no_read_failed : Rose (source.faults first) (source.faults last) → ⊥
  pub no_write_failed : Rose (sink.faults before) (sink.faults after) → ⊥

-- a run of words and bytes in memory that never fails, whose sink has capacity for the text and one byte more
pub record RunInMemory (source : Source (List ℕ)) (sink : Sink SureOutput) : Type 0 where
  pub words : List (List ℕ)
  pub bytes : List ℕ
  pub left : List ℕ
  pub before : SureOutput
  pub after : SureOutput
  pub outcome : Option Fault
  pub runs : Runs source sink words bytes left before after outcome
  pub room : length before.store.held + length (answer words bytes).text < before.store.room
