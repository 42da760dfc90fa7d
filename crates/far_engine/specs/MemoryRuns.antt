-- The effect of a run of the program on its slices.
use Rattle.std.specs.Prelude.{ℕ, ◌≡◌, ◌⊎◌, List, [], Option, Some, None}
use Rattle.subdiv_model.specs.Fault.{Fault, Memory, fault_line, outcome_status}
use Rattle.far_model.specs.Answer.{answer}
use Rattle.far_engine.specs.Runs.{RunsProgram}
use Rattle.memory_streams.specs.Text.{IsStored, count_of}
use Rattle.memory_streams.specs.declared.sink.SliceSink.{SliceSink}
use Rattle.memory_streams.specs.contracts.sink.SliceSinkSink.TheImpl as sink
use Rattle.memory_streams.specs.contracts.source.SliceSourceSource.TheImpl as source
use Rattle.far_engine.specs.declared.in_memory.Ran.{Ran}

-- a run of the program over a source and two sinks that are slices, with a counter that starts at 0
abbrev pub RunsOverSlices : List (List ℕ) → List ℕ → List ℕ → SliceSink → SliceSink → SliceSink → SliceSink → ℕ → Type 0
RunsOverSlices words s s' k k' e e' status = (steps : ℕ) × RunsProgram source.ghosts sink.ghosts sink.ghosts words s s' k k' e e' 0 steps status

-- the line that an outcome reports
abbrev pub line_of : Option Fault → List ℕ
line_of None = []
line_of (Some fault) = fault_line fault

-- the line of a run without memory
abbrev pub memory_line : List ℕ
memory_line = fault_line Memory

-- The outcome and the text are those defined for the words and the input; or memory ran out, and nothing was written.
abbrev pub IsAnswer : List (List ℕ) → List ℕ → Option Fault → List ℕ → Type 0
IsAnswer words input outcome text =
    ((outcome ≡ (answer words input).refusal) × (text ≡ (answer words input).text)) ⊎ ((outcome ≡ Some Memory) × (text ≡ []))

-- A run of the program: the bytes of its two output slices before and after it, and its result.
pub record RunsInMemory (words : List (List ℕ)) (input out out' errors errors' : List ℕ) (ran : Ran) : Type 0 where
  pub outcome : Option Fault
  pub text : List ℕ
  pub answered : IsAnswer words input outcome text
  pub status : ran.status ≡ outcome_status outcome
  -- the slice contains as much of the text as fits and keeps its bytes behind it, and the result has the text's length
  pub stored : IsStored text out out'
  pub written : ran.written ≡ count_of text
  -- the slice of the errors contains as much of the line as fits and keeps its bytes behind it, and the result has the line's length
  pub line_stored : IsStored (line_of outcome) errors errors'
  pub reported : ran.reported ≡ count_of (line_of outcome)
