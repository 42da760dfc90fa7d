-- The rest of the words of a line, and the conditions on the words of a row.
use Rattle.std.specs.Prelude.{ℕ, ◌≡◌, Bool, true, false, ◌&&◌, nat_eq, nat_le, nat_lt, List, [], ◌∷◌, Option, Some, None}
use Rattle.std.specs.Borrow.{Bor}
use Rattle.subdiv_model.specs.Digits.{is_number_word, number_of_digits}
use Rattle.subdiv_model.specs.ReadTable.{spaced_words, is_term}
use Rattle.subdiv_model.specs.Table.{Share}
use Rattle.stencil_apply.specs.declared.entry.Entry.{Entry}
use Rattle.table_file.specs.declared.words.Words.{Words}

abbrev pub is_space : ℕ → Bool
is_space b = nat_eq b 32

-- the words of the rest of a line, or none if nothing is left
abbrev pub words_in : Option (Bor (List ℕ)) → List (List ℕ)
words_in None = []
words_in (Some rest) = spaced_words rest.now

-- the rest of the words
abbrev pub words_left : Words → List (List ℕ)
words_left words = words_in words.rest

-- the words are numbers and come in pairs
abbrev pub are_number_pairs : List (List ℕ) → Bool
are_number_pairs [] = true
are_number_pairs (control ∷ []) = false
are_number_pairs (control ∷ (numerator ∷ words)) = is_number_word control && is_number_word numerator && are_number_pairs words

-- the share may come next in a row; control points from a number on are allowed
abbrev pub is_share_in_range : ℕ → ℕ → Share → Bool
is_share_in_range controls least share = nat_le least share.0 && nat_lt share.0 controls && is_term share.1

-- the control point and the numerator of two words
abbrev pub share_of : List ℕ → List ℕ → Share
share_of control numerator = (number_of_digits control, number_of_digits numerator)

-- the entry is the share, which may come next
abbrev pub IsNextEntry : ℕ → ℕ → Share → Entry → Type 0
IsNextEntry controls least share entry = (is_share_in_range controls least share ≡ true) × ((entry.index, entry.numerator) ≡ share)
