-- The answers of a command that answers while it reads, line by line.
-- Source: Drillolive.
use Rattle.std.specs.Prelude.{ℕ, nat_lt, List, [], ◌∷◌, ◌++◌, length, take, Option, if◌then◌else◌}
use Rattle.std.specs.List.{slice_split}
use Rattle.subdiv_model.specs.Lists.{last_of}
use Rattle.subdiv_model.specs.ObjLine.{is_lf}
use Rattle.subdiv_model.specs.Fault.{Fault, Long}
use Rattle.far_model.specs.Refusal.{Answer, refused, answer_unless, then_answer}

-- What each line of an input adds after the lines before it.
pub record LineRule : Type 0 where
  -- a line that LF closes, or the end of the input
  pub line : List (List ℕ) → List ℕ → Answer
  -- the refusal of the bytes of a line that LF has not closed yet
  pub unclosed : List (List ℕ) → List ℕ → Option Fault
  -- the end of the input, after all lines
  pub end : List (List ℕ) → Answer

-- all but the last of a list
abbrev pub but_last : {X : Type 0} → List X → List X
but_last [] = []
but_last (x ∷ []) = []
but_last (x ∷ (y ∷ xs)) = x ∷ but_last (y ∷ xs)

-- the bytes between line ends
abbrev pub parts_of : List ℕ → List (List ℕ)
parts_of bytes = slice_split is_lf bytes

-- the lines that LF closes
abbrev pub closed_of : List ℕ → List (List ℕ)
closed_of bytes = but_last (parts_of bytes)

-- the bytes after the last LF
abbrev pub unclosed_of : List ℕ → List ℕ
unclosed_of bytes = last_of [] (parts_of bytes)

-- what lines add one after another, then an end that depends on all of them
abbrev pub answer_from : LineRule → (List (List ℕ) → Answer) → List (List ℕ) → List (List ℕ) → Answer
answer_from rule end before [] = end before
answer_from rule end before (line ∷ lines) = then_answer (rule.line before line) (answer_from rule end (before ++ (line ∷ [])) lines)

-- what bytes add while more may come
abbrev pub answer_so_far : LineRule → List ℕ → Answer
answer_so_far rule bytes = answer_from rule (λ lines. answer_unless (rule.unclosed lines (unclosed_of bytes)) []) [] (closed_of bytes)

-- what the bytes after the last LF add if the input ends with them, then the end
abbrev pub answer_at_end : LineRule → List ℕ → List (List ℕ) → Answer
answer_at_end rule [] lines = rule.end lines
answer_at_end rule (b ∷ bytes) lines = then_answer (rule.line lines (b ∷ bytes)) (rule.end (lines ++ ((b ∷ bytes) ∷ [])))

-- what all bytes of an input add
abbrev pub answer_of_all : LineRule → List ℕ → Answer
answer_of_all rule bytes = answer_from rule (answer_at_end rule (unclosed_of bytes)) [] (closed_of bytes)

-- the answer to an input of at most this many bytes, or the answer to its first bytes and the refusal of its length
abbrev pub answer_of_lines : LineRule → ℕ → List ℕ → Answer
answer_of_lines rule limit bytes =
    if nat_lt limit (length bytes) then then_answer (answer_so_far rule (take limit bytes)) (refused Long) else answer_of_all rule bytes
