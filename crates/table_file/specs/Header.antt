-- The words of a first line.
use Rattle.std.specs.Prelude.{ℕ, ◌≡◌, Bool, true, ◌&&◌, nat_le, List, [], length, drop, get_or, bytes_eq, Some, None, Result, MatchResult}
use Rattle.subdiv_model.specs.Digits.{is_number_word, number_of_digits}
use Rattle.subdiv_model.specs.ReadTable.{Header, is_header_form, header_of, header_cause}
use Rattle.table_file.specs.View.{cause_of}
use Rattle.table_file.specs.declared.fault.TableCause.{TableCause}
use Rattle.table_file.specs.declared.header.HeaderWords.{HeaderWords}

-- the words begin with a name and a number
abbrev pub is_named_number : List ℕ → List (List ℕ) → Bool
is_named_number name words = nat_le 2 (length words) && bytes_eq (get_or words 0 []) name && is_number_word (get_or words 1 [])

-- the words begin with a name and this number, and others follow
abbrev pub IsNamedNumber : List ℕ → List (List ℕ) → List ℕ → List (List ℕ) → Type 0
IsNamedNumber name words number others = (is_named_number name words ≡ true) × (number ≡ get_or words 1 []) × (others ≡ drop 2 words)

-- the words of the three numbers of a first line are numbers
pub record AreHeaderWords (words : HeaderWords) (list : List (List ℕ)) : Type 0 where
  pub controls : words.controls.now ≡ get_or list 2 []
  pub rows : words.rows.now ≡ get_or list 4 []
  pub entries : words.entries.now ≡ get_or list 6 []

pub record AreNumbers (words : HeaderWords) : Type 0 where
  pub controls : is_number_word words.controls.now ≡ true
  pub rows : is_number_word words.rows.now ≡ true
  pub entries : is_number_word words.entries.now ≡ true

abbrev pub header_of_words : HeaderWords → Header
header_of_words words = record {
  controls = number_of_digits words.controls.now;
  rows = number_of_digits words.rows.now;
  entries = number_of_digits words.entries.now;
}

-- the words are those of a first line, and these are the words of its numbers
abbrev pub IsHeaderForm : HeaderWords → List (List ℕ) → Type 0
IsHeaderForm words list = (is_header_form list ≡ true) × AreHeaderWords words list × AreNumbers words

-- the header of the words of a first line, or the cause that refuses them
abbrev pub IsHeaderRead : List (List ℕ) → Result Header TableCause → Type 0
IsHeaderRead list result =
    MatchResult result (λ header. (header_cause list ≡ None) × (header ≡ header_of list)) (λ cause. header_cause list ≡ Some (cause_of cause))
