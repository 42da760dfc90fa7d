-- Terms of values, numbers over a common denominator, and lines before they become text, for the laws of texts.
-- Source: Drillolive.
use Rattle.std.specs.Prelude.{ℕ, ℤ, pos, negsuc, neg_ℤ, unsigned_abs, Bool, not, ◌&&◌, ◌||◌, nat_le, List, ◌∷◌, length, take, bytes_eq, IsTrue}
use Rattle.std.specs.List.{list_all, flat_map}
use Rattle.subdiv_model.specs.Fractions.{lowest}
use Rattle.subdiv_model.specs.Value.{Value}
use Rattle.subdiv_model.specs.NumberText.{value_text}
use Rattle.subdiv_model.specs.ObjLine.{is_blank, is_lf, opens_comment}
use Rattle.subdiv_model.specs.ObjWord.{number_over}
use Rattle.subdiv_model.specs.ReadObj.{byte_order_mark}
use Rattle.subdiv_model.specs.Text.{line_text}

-- Numbers.

-- an amount with the sign of a number
abbrev pub with_sign_of : ℤ → ℕ → ℤ
with_sign_of (pos n) amount = pos amount
with_sign_of (negsuc n) amount = neg_ℤ (pos amount)

-- the amount of a value in lowest terms
abbrev pub lowest_amount : Value → ℕ × ℕ
lowest_amount value = lowest (unsigned_abs value.num, value.den)

-- a value in lowest terms
abbrev pub lowest_terms : Value → ℤ × ℕ
lowest_terms value = (with_sign_of value.num (lowest_amount value).0, (lowest_amount value).1)

-- a number over a common denominator
abbrev pub value_over : ℕ → ℤ → Value
value_over common n = record { num = n; den = common }

-- the value that is read over a common denominator from the text of a value
abbrev pub read_over : ℕ → Value → Value
read_over common value = value_over common (number_over common (value_text value))

-- Lines.

-- a blank or LF
abbrev pub ends_word : ℕ → Bool
ends_word b = is_blank b || is_lf b

-- the word is not empty, contains no blank and no LF, and does not open a comment
abbrev pub is_plain_word : List ℕ → Bool
is_plain_word word = nat_le 1 (length word) && list_all (λ b. not (ends_word b)) word && not (opens_comment word)

-- a keyword and the words after it
abbrev pub Line : Type 0
Line = List ℕ × List (List ℕ)

-- the words of the line are plain, and its keyword does not begin with a byte order mark
abbrev pub is_plain_line : Line → Bool
is_plain_line line = is_plain_word line.0 && not (bytes_eq (take 3 line.0) byte_order_mark) && list_all is_plain_word line.1

-- each line of a list is plain
abbrev pub ArePlain : List Line → Type 0
ArePlain lines = IsTrue (list_all is_plain_line lines)

-- the text of lines
abbrev pub text_of : List Line → List ℕ
text_of lines = flat_map (λ line. line_text line.0 line.1) lines

-- the words of a line, as the reader returns them
abbrev pub words_of : Line → List (List ℕ)
words_of line = line.0 ∷ line.1
