-- The line of a row, in the words of its numbers, and the rows so far.
use Rattle.std.specs.Prelude.{ℕ, ◌≡◌, ◌+◌, true, not, nat_eq, List, length, Option, Some, None, if◌then◌else◌}
use Rattle.std.specs.List.{list_all}
use Rattle.subdiv_model.specs.Digits.{is_number_word, number_of_digits}
use Rattle.subdiv_model.specs.ReadTable.{Header, is_row_form, is_row_in_range, shares_of_words, row_of_words, is_miscounted}
use Rattle.subdiv_model.specs.Table.{Row, total_of}
use Rattle.subdiv_model.specs.TableFault.{TableCause, Sum, Count}
use Rattle.stencil_apply.specs.Arrays.{row_of}
use Rattle.stencil_apply.specs.declared.entry.Entry.{Entry}
use Rattle.table_file.specs.Words.{words_left}
use Rattle.table_file.specs.declared.row.RowWords.{RowWords}

-- the row of the words
abbrev pub row_in : RowWords → Row
row_in words = record { den = number_of_digits words.denominator.now; shares = shares_of_words (words_left words.shares) }

-- the row is in range, and these are its denominator and its entries
abbrev pub IsInRange : ℕ → RowWords → ℕ → List Entry → Type 0
IsInRange controls words den entries = (is_row_in_range controls (row_in words) ≡ true) × (row_of den entries ≡ row_in words)

-- all words of a line are those of a row, with these numbers
pub record IsRowForm (words : RowWords) (list : List (List ℕ)) : Type 0 where
  pub form : is_row_form list ≡ true
  pub row : row_of_words list ≡ row_in words
  pub denominator : is_number_word words.denominator.now ≡ true
  pub numbers : list_all is_number_word (words_left words.shares) ≡ true

-- the fault of a row in range
abbrev pub cause_in_range : Header → ℕ → ℕ → Row → Option TableCause
cause_in_range header left entries row =
    if not (nat_eq (total_of row.shares) row.den) then Some Sum
    else if is_miscounted header left (entries + length row.shares) then Some Count
    else None
