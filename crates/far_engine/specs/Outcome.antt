-- The outcome and the text of a run, from its words and the bytes of its input.
-- Source: this profile.
use Rattle.std.specs.Prelude.{ℕ, ◌≡◌, Bool, true, false, List, Option, Some, None}
use Rattle.subdiv_model.specs.Fault.{Fault, Usage, Read, Long, Write, Memory}
use Rattle.far_model.specs.Answer.{answer}

-- the refusal of words and bytes, or none
abbrev pub refusal_of : List (List ℕ) → List ℕ → Option Fault
refusal_of words bytes = (answer words bytes).refusal

-- the text of the answer to words and bytes
abbrev pub text_of : List (List ℕ) → List ℕ → List ℕ
text_of words bytes = (answer words bytes).text

-- the outcome is the refusal that is defined, or a fault of a stream or of memory; Write comes only if nothing is refused
abbrev pub IsAnswered : Option Fault → Option Fault → Type 0
IsAnswered None refusal = refusal ≡ None
IsAnswered (Some Read) refusal = Unit {0}
IsAnswered (Some Memory) refusal = Unit {0}
IsAnswered (Some Write) refusal = refusal ≡ None
IsAnswered (Some fault) refusal = refusal ≡ Some fault

-- this outcome comes only after the whole input was read
abbrev pub is_after_reading : Option Fault → Bool
is_after_reading None = true
is_after_reading (Some (Usage word)) = false
is_after_reading (Some Read) = false
is_after_reading (Some Long) = false
is_after_reading (Some Memory) = false
is_after_reading (Some fault) = true
