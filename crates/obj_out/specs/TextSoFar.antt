-- The part of a buffered text that a sink has received.
use Rattle.std.specs.Prelude.{ℕ, ◌≡◌, List, ◌++◌, Option, Result, MatchResult}
use Rattle.far_io.specs.Bytes.{Added, AddedPrefix}
use Rattle.far_io.specs.declared.sink.WriteFailed.{WriteFailed}

-- Since it held `start`, the sink received this text except for its end, which waits.
abbrev pub IsTextSoFar : Option (List ℕ) → Option (List ℕ) → List ℕ → List ℕ → Type 0
IsTextSoFar start held waiting text = (got : List ℕ) × Added start held got × (got ++ waiting ≡ text)

-- A call after others: since the sink held `start` they put `before`, of which `waited` waited, and the call put `text`. The sink
-- holds `new` then, and `waits` waits.
pub record CallAfter : Type 0 where
  pub start : Option (List ℕ)
  pub before : List ℕ
  pub old : Option (List ℕ)
  pub waited : List ℕ
  pub text : List ℕ
  pub new : Option (List ℕ)
  pub waits : List ℕ
  pub so_far : IsTextSoFar start old waited before
  pub put : IsTextSoFar old new waits (waited ++ text)

-- The call appended the text to the waiting text, or failed and left a prefix of both on the sink.
abbrev pub IsPut : Option (List ℕ) → List ℕ → List ℕ → Result (Unit {0}) WriteFailed → Option (List ℕ) → List ℕ → Type 0
IsPut old waited text result new waits =
    MatchResult result (λ _. IsTextSoFar old new waits (waited ++ text)) (λ _. AddedPrefix old new (waited ++ text))
