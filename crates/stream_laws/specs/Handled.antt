-- The progress of a program that answers line by line.
-- Source: Drillolive.
use Rattle.std.specs.Prelude.{◌≡◌, ℕ, Bool, true, not, List, [], ◌∷◌, ◌++◌, Some, None}
use Rattle.std.specs.List.{list_all, flat_map}
use Rattle.subdiv_model.specs.Fault.{Fault}
pub use Rattle.subdiv_model.specs.ReadTable.{has_line as has_lf}
use Rattle.far_model.specs.Refusal.{refused}
use Rattle.far_model.specs.Stream.{LineRule, answer_from}

-- no line contains LF, so LF can close each
abbrev pub are_lines : List (List ℕ) → Bool
are_lines lines = list_all (λ line. not (has_lf line)) lines

-- the bytes of lines, each closed by LF
abbrev pub text_of_lines : List (List ℕ) → List ℕ
text_of_lines lines = flat_map (λ line. line ++ 10 ∷ []) lines

-- the lines give this text, and none is refused
pub record IsHandled (rule : LineRule) (lines : List (List ℕ)) (text : List ℕ) : Type 0 where
  pub closed : are_lines lines ≡ true
  pub answered : answer_from rule (λ before. record { text = []; refusal = None }) [] lines ≡ record { text = text; refusal = None }

-- each line that begins with these bytes is refused, and is refused before LF closes it
pub record IsRefusedStart (rule : LineRule) (lines : List (List ℕ)) (start : List ℕ) (fault : Fault) : Type 0 where
  pub line : (others : List ℕ) → rule.line lines (start ++ others) ≡ refused fault
  pub unclosed : (others : List ℕ) → rule.unclosed lines (start ++ others) ≡ Some fault
