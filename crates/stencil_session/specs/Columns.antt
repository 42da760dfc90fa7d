-- The columns of a table: for each control the rows that have it, each with the control's numerator.
use Rattle.std.specs.Prelude.{ℕ, ◌≡◌, ◌+◌, ◌^◌, ◌<◌, ℤ, pos, Bool, true, nat_eq, nat_lt, List, [], ◌∷◌, ◌++◌, length, map, take, get_or, set, slice_range, if◌then◌else◌}
use Rattle.std.specs.List.{All, filter, fold, sum_by, count_by, zip, range_with_len}
use Rattle.ratio128.specs.Numbers.{CanAdd, plus_times}
use Rattle.ratio128.specs.declared.point.Point3.{Point3}
use Rattle.stencil_apply.specs.Table.{Row, Table}
use Rattle.stencil_apply.specs.Means.{numerator_of}
use Rattle.stencil_apply.specs.Arrays.{Ascend}
use Rattle.stencil_session.specs.Session.{has_control, numbers_of}
use Rattle.stencil_session.specs.declared.parts.Parts.{Parts}

-- a row, and the numerator of a control in it
abbrev pub Entry : Type 0
Entry = ℕ × ℕ

-- the rows that have a control, ascending; the first row has this number
abbrev pub column_from : ℕ → List Row → ℕ → List Entry
column_from first [] control = []
column_from first (row ∷ rows) control =
    if has_control control row then (first, numerator_of row.shares control) ∷ column_from (first + 1) rows control
    else column_from (first + 1) rows control

abbrev pub column_of : Table → ℕ → List Entry
column_of table control = column_from 0 table.rows control

abbrev pub columns_of : Table → List (List Entry)
columns_of table = map (column_of table) (range_with_len 0 table.controls)

-- parts of a list: each ends where the next begins
abbrev pub parts_from : ℕ → List ℕ → List Entry → List (List Entry)
parts_from from [] entries = []
parts_from from (end ∷ ends) entries = slice_range entries from end ∷ parts_from end ends entries

abbrev pub columns_in : Parts → List (List Entry)
columns_in parts = parts_from 0 parts.ends.items (zip parts.rows.items parts.numerators.items)

-- the parts cover the entries, and each entry has a numerator
pub record ArePacked (parts : Parts) : Type 0 where
  pub ascend : Ascend 0 parts.ends.items (length parts.rows.items)
  pub numerators : length parts.numerators.items ≡ length parts.rows.items

-- an entry of a table: its control, its row and its numerator
abbrev pub Cell : Type 0
Cell = ℕ × ℕ × ℕ

abbrev pub cells_of : ℕ → Row → List Cell
cells_of number row = map (λ share. (share.0, number, share.1)) row.shares

-- the entries of rows; the first row has this number
abbrev pub cells_from : ℕ → List Row → List Cell
cells_from first [] = []
cells_from first (row ∷ rows) = cells_of first row ++ cells_from (first + 1) rows

-- the entries of the rows before one
abbrev pub cells_before : Table → ℕ → List Cell
cells_before table row = cells_from 0 (take row table.rows)

abbrev pub is_of : ℕ → Cell → Bool
is_of control cell = nat_eq cell.0 control

-- the start of a control's column: the number of entries of lesser controls
abbrev pub start_of : List Cell → ℕ → ℕ
start_of cells control = count_by (λ cell. nat_lt cell.0 control) cells

-- the number of entries of each control
pub record AreCounts (controls : ℕ) (cells : List Cell) (counts : List ℕ) : Type 0 where
  pub long : length counts ≡ controls
  pub each : (i : ℕ) → i < controls → get_or counts i 0 ≡ count_by (is_of i) cells

-- The first entries of all are written: those of a control from the start of its column on, in their order. The place after
-- them is for the next one.
pub record ArePut (count : ℕ) (all done : List Cell) (parts : Parts) : Type 0 where
  pub columns : length parts.ends.items ≡ count
  pub long : length parts.rows.items ≡ length all
  pub numerators : length parts.numerators.items ≡ length all
  pub next : (i : ℕ) → i < count → get_or parts.ends.items i 0 ≡ start_of all i + count_by (is_of i) done
  pub row_parts : (i : ℕ) → i < count → slice_range parts.rows.items (start_of all i) (start_of all i + count_by (is_of i) done) ≡ map (λ cell. cell.1) (filter (is_of i) done)
  pub numerator_parts : (i : ℕ) → i < count → slice_range parts.numerators.items (start_of all i) (start_of all i + count_by (is_of i) done) ≡ map (λ cell. cell.2) (filter (is_of i) done)

-- the sum of the numerators of a row in a column
abbrev pub amount_in : List Entry → ℕ → ℕ
amount_in column row = sum_by (λ entry. if nat_eq entry.0 row then entry.1 else 0) column

-- marks, together with those of a column's rows
abbrev pub marked : List Bool → List Entry → List Bool
marked marks column = fold (λ marks entry. set marks entry.0 true) marks column

-- each value is the old one, plus its row's numerators in the column times the numbers
abbrev pub AreAdded : List Entry → List ℤ → List Point3 → List Point3 → Type 0
AreAdded column numbers old new =
    (row : ℕ) (d : Point3) → row < length old → numbers_of (get_or new row d) ≡ plus_times (pos (amount_in column row)) (numbers_of (get_or old row d)) numbers

-- each row occurs once in the column, and its numerator times the numbers can be added to the row's value
pub record CanAddColumn (column : List Entry) (values : List (List ℤ)) (numbers : List ℤ) : Type 0 where
  pub inside : All (λ entry. entry.0 < length values) column
  pub once : All (λ entry. amount_in column entry.0 ≡ entry.1) column
  pub short : All (λ entry. entry.1 < 2 ^ 127) column
  pub fits : All (λ entry. CanAdd (pos entry.1) (get_or values entry.0 []) numbers) column
