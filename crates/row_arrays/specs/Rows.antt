-- The sums of rows, and the first fault of a range of rows.
use Rattle.std.specs.Prelude.{◌≡◌, ℕ, ◌<◌, ◌≤◌, ◌+◌, ◌-◌, ◌*◌, ◌/◌, ◌&&◌, ℤ, pos, ◌*ℤ◌, Bool, nat_lt, nat_le, List, [], ◌∷◌, length, get_or, map, take, drop, Option, Some, None, is_some, if◌then◌else◌}
use Rattle.std.specs.List.{flat_map, list_all, range_with_len, slice_range}
use Rattle.std.specs.Option.{option_or, some_prefix}
use Rattle.flat_arrays.specs.Words.{natural_of, integer_of}
use Rattle.flat_arrays.specs.declared.wide.Wide.{Wide}
use Rattle.row_arrays.specs.Sums.{sum_of}
use Rattle.row_arrays.specs.declared.rows.RowArrays.{RowArrays}
use Rattle.row_arrays.specs.declared.rows.ControlArrays.{ControlArrays}
use Rattle.row_arrays.specs.declared.rows.RowRange.{RowRange}
use Rattle.row_arrays.specs.declared.rows.RowFault.{RowFault}
use Rattle.row_arrays.specs.declared.rows.RowFault.TheVariants.{Range, Short, Row, Overflow}

-- The words at a place.
abbrev pub wide_at : List Wide → ℕ → Wide
wide_at words place = get_or words place (record { low = 0; high = 0 })

-- How many controls there are.
abbrev pub control_count : ControlArrays → ℕ
control_count controls = length controls.numbers.now / controls.components

-- Where the entries of a row begin.
abbrev pub row_start : RowArrays → ℕ → ℕ
row_start rows row = get_or rows.starts.now row 0

-- Where the entries of a row end.
abbrev pub row_end : RowArrays → ℕ → ℕ
row_end rows row = get_or rows.starts.now (row + 1) 0

-- Whether the arrays contain the entries of a row, and each entry names a control.
abbrev pub is_within : RowArrays → ControlArrays → ℕ → Bool
is_within rows controls row =
    nat_le (row_start rows row) (row_end rows row)
    && (nat_le (row_end rows row) (length rows.indices.now)
    && (nat_le (row_end rows row) (length rows.numerators.now)
    && list_all (λ control. nat_lt control (control_count controls)) (slice_range rows.indices.now (row_start rows row) (row_end rows row))))

-- The numerator of an entry times a component of its control.
abbrev pub product_at : RowArrays → ControlArrays → ℕ → ℕ → ℤ
product_at rows controls component entry =
    pos (natural_of (wide_at rows.numerators.now entry))
    *ℤ integer_of (wide_at controls.numbers.now (get_or rows.indices.now entry 0 * controls.components + component))

-- The arrays contain the entries from `start` up to `end`, and each entry names a control.
pub record AreEntries (rows : RowArrays) (controls : ControlArrays) (start end : ℕ) : Type 0 where
  pub indices : end ≤ length rows.indices.now
  pub numerators : end ≤ length rows.numerators.now
  pub named : (entry : ℕ) → start ≤ entry → entry < end → get_or rows.indices.now entry 0 < control_count controls

-- The sum of a row over its entries in order, if the arrays contain them and every product and partial sum fits 128 bits.
abbrev pub row_sum : RowArrays → ControlArrays → ℕ → ℕ → Option ℤ
row_sum rows controls row component =
    if (is_within rows controls row)
    then (sum_of (map (product_at rows controls component) (range_with_len (row_start rows row) (row_end rows row - row_start rows row))))
    else None

-- The sum of a row for each component.
abbrev pub row_sums : RowArrays → ControlArrays → ℕ → List (Option ℤ)
row_sums rows controls row = map (row_sum rows controls row) (range_with_len 0 controls.components)

-- The fault of a row.
abbrev pub row_fault : RowArrays → ControlArrays → ℕ → Option RowFault
row_fault rows controls row =
    if (is_within rows controls row)
    then (if (list_all is_some (row_sums rows controls row)) then None else (Some (Overflow row)))
    else (Some (Row row))

-- The fault of the first faulty row.
abbrev pub first_row_fault : RowArrays → ControlArrays → List ℕ → Option RowFault
first_row_fault rows controls [] = None
first_row_fault rows controls (row ∷ others) = option_or (row_fault rows controls row) (first_row_fault rows controls others)

-- The rows of a range.
abbrev pub rows_of : RowRange → List ℕ
rows_of range = range_with_len range.from (range.to - range.from)

-- Whether there are components, and the range is a range of the rows.
abbrev pub is_range : RowArrays → ControlArrays → RowRange → Bool
is_range rows controls range =
    nat_lt 0 controls.components && (nat_le range.from range.to && nat_lt range.to (length rows.starts.now))

-- The fault of the range or of an output with this many places.
abbrev pub range_fault : RowArrays → ControlArrays → RowRange → ℕ → Option RowFault
range_fault rows controls range places =
    if (is_range rows controls range)
    then (if (nat_le ((range.to - range.from) * controls.components) places) then None else (Some Short))
    else (Some Range)

-- The first fault of the range, the output and the rows.
abbrev pub apply_fault : RowArrays → ControlArrays → RowRange → ℕ → Option RowFault
apply_fault rows controls range places = option_or (range_fault rows controls range places) (first_row_fault rows controls (rows_of range))

-- The sums of rows, row by row, up to the first sum that does not exist.
abbrev pub sums_of_rows : RowArrays → ControlArrays → List ℕ → List ℤ
sums_of_rows rows controls numbers = some_prefix (flat_map (row_sums rows controls) numbers)

-- The sums that the call writes: none if the range or the output is at fault.
abbrev pub sums_written : RowArrays → ControlArrays → RowRange → ℕ → List ℤ
sums_written rows controls range places =
    if (is_some (range_fault rows controls range places)) then [] else (sums_of_rows rows controls (rows_of range))

-- The numbers are in the first places, and the other places are unchanged.
pub record ArePut (numbers : List ℤ) (old new : List Wide) : Type 0 where
  pub written : map integer_of (take (length numbers) new) ≡ numbers
  pub rest : drop (length numbers) new ≡ drop (length numbers) old
