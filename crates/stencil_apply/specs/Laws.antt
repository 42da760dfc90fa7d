-- The terms of the laws of rows: the entries of a range, a row with its controls, and the controls of the identity.
use Rattle.std.specs.Prelude.{◌≡◌, ℕ, ℤ, pos, List, length, map}
use Rattle.std.specs.List.{All, range_with_len}
use Rattle.stencil_apply.specs.Table.{Row, Table, IsRow, entries_of, rows_in}
use Rattle.stencil_apply.specs.Means.{unit_numbers, numerator_of}

-- the number of entries of the rows of a range
abbrev pub entries_in : Table → ℕ → ℕ → ℕ
entries_in table from to = entries_of (rows_in table from to)

-- a row, its controls, and the numbers from which its sum starts; each control has as many numbers as these
pub record SummedRow : Type 0 where
  pub row : Row
  pub controls : List (List ℤ)
  pub start : List ℤ
  pub is_row : IsRow (length controls) row
  pub as_many : All (λ numbers. length numbers ≡ length start) controls

-- the identity of this many controls: each has as many numbers, with 1 at its own place and 0 elsewhere
abbrev pub identity_of : ℕ → List (List ℤ)
identity_of count = map (unit_numbers count) (range_with_len 0 count)

-- the numerator of each of this many controls, or 0 if the row does not have it
abbrev pub numerators_by_place : ℕ → Row → List ℤ
numerators_by_place count row = map (λ v. pos (numerator_of row.shares v)) (range_with_len 0 count)
