-- Words and parts that are still to come.
use Rattle.std.specs.Prelude.{ℕ, Bool, List, [], ◌∷◌, Option, Some, None}
use Rattle.std.specs.Borrow.{Bor}
use Rattle.std.specs.List.{slice_split}
use Rattle.subdiv_model.specs.ObjLine.{line_words}
use Rattle.subdiv_model.specs.Numeral.{is_slash}
use Rattle.subdiv_model.specs.ReadObj.{is_continued}
use Rattle.obj_text.specs.declared.line.Words.{Words}

-- The words that are still to come.
abbrev pub words_left : Words → List (List ℕ)
words_left words = line_words words.line.now

-- The parts between slashes of the rest of a word, or none without a rest.
abbrev pub parts_left : Option (Bor (List ℕ)) → List (List ℕ)
parts_left None = []
parts_left (Some rest) = slice_split is_slash rest.now

-- Whether a line is continued, given the result for the words so far and the words to come.
abbrev pub continued_from : Bool → List (List ℕ) → Bool
continued_from so_far [] = so_far
continued_from so_far (word ∷ words) = is_continued (word ∷ words)
