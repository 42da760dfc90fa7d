-- One more row in the table of a caller's arrays.
use Rattle.std.proofs.Common.{◌≡◌, ℕ, ◌+◌, ◌-◌, ◌^◌, ◌<◌, ◌≤◌, true, nat_eq, nat_le, List, length, arith, ap, sym, ◌∙◌, leb-true}
use Rattle.std.proofs.lemmas.Bool.{and_parts}
use Rattle.std.proofs.lemmas.List.{length-map}
use Rattle.std.proofs.lemmas.List.FromFn.{length-map-range_with_len, map-range_with_len_more, sum_by-map-range_with_len_more}
use borrow.Author.Count.{below_more}
use Rattle.subdiv_model.specs.Table.{Row, Table, entries_of}
use Rattle.stencil_apply.specs.Arrays.{row_of, shares_of}
use Rattle.stencil_apply.specs.Built.{with_row}
use Rattle.stencil_apply.specs.declared.entry.Entry.{Entry}
use Rattle.table_arrays.specs.Built.{AreFirstRows}
use Rattle.table_arrays.specs.Rows.{IsGoodRow, is_in_shape, number_at, row_in, rows_to, share_at, start_of}
use Rattle.table_arrays.specs.declared.exact_rows.ExactRows.{ExactRows}
use Rattle.table_arrays.proofs.EntryLemmas.{same-row}

-- the numbers of rows and entries are within the limits of a table
record IsSmall (rows : ExactRows) : Type 0 where
  rows_few : length rows.denominators.now ≤ 2 ^ 27
  entries_few : length rows.indices.now ≤ 2 ^ 27

small : (rows : ExactRows) → is_in_shape rows ≡ true → IsSmall rows
small rows shape =
    let starts = and_parts _ (nat_eq (length rows.starts.now) (length rows.denominators.now + 1)) shape in
    let numerators = and_parts _ (nat_eq (length rows.numerators.now) (length rows.indices.now)) starts.0 in
    let entries = and_parts _ (nat_le (length rows.indices.now) (2 ^ 27)) numerators.0 in
    let few = and_parts (nat_le rows.controls (2 ^ 27)) (nat_le (length rows.denominators.now) (2 ^ 27)) entries.0 in
    record { rows_few = leb-true (length rows.denominators.now) (2 ^ 27) few.1; entries_few = leb-true (length rows.indices.now) (2 ^ 27) entries.1 }

-- a row has the entries from its start up to the next start
length-shares : (rows : ExactRows) (r : ℕ) → length (row_in rows r).shares ≡ start_of rows (r + 1) - start_of rows r
length-shares rows r = length-map-range_with_len (share_at rows) (start_of rows r) (start_of rows (r + 1) - start_of rows r)

-- there is capacity for one more row and its entries
pub rows-few : (rows : ExactRows) (r : ℕ) (table : Table) → is_in_shape rows ≡ true → r < length rows.denominators.now → AreFirstRows rows r table → length table.rows < 2 ^ 27
rows-few rows r table shape inside first =
    omega (arith, (small rows shape).rows_few, ap (λ (t : Table). length t.rows) first.same, length-map-range_with_len (row_in rows) 0 r)

pub entries-few : (rows : ExactRows) (r : ℕ) (table : Table) (items entries : List Entry) → is_in_shape rows ≡ true → AreFirstRows rows r table → IsGoodRow rows r
    → shares_of items ≡ (row_in rows r).shares → entries ≡ items → entries_of table.rows + length entries ≤ 2 ^ 27
entries-few rows r table items entries shape first good are same =
    let as_many : length (shares_of items) ≡ length items = length-map items (λ (e : Entry). (e.index, e.numerator)) in
    omega (arith, (small rows shape).entries_few, first.entries, good.forward, good.inside, length-shares rows r, ap length are, as_many, ap length same)

-- one more row
pub row-added : (rows : ExactRows) (r den : ℕ) (before after : Table) (items entries : List Entry) → AreFirstRows rows r before → IsGoodRow rows r
    → shares_of items ≡ (row_in rows r).shares → entries ≡ items → den ≡ number_at rows.denominators.now r → after ≡ with_row (row_of den entries) before
    → AreFirstRows rows (r + 1) after
row-added rows r den before after items entries first good are same d added =
    let place : 0 + r ≡ r = omega arith in
    let all : after ≡ record { controls = rows.controls; rows = rows_to rows (r + 1) } =
    added
    ∙ ap (λ (row : Row). with_row row before) (same-row rows r den items entries are d same)
    ∙ ap (with_row (row_in rows r)) first.same
    ∙ ap (λ (list : List Row). record { controls = rows.controls; rows = list }) (sym (map-range_with_len_more (row_in rows) 0 r r place)) in
    record {
      good = below_more (IsGoodRow rows) r first.good good;
      same = all;
      entries = omega (
        arith,
        first.entries,
        good.forward,
        length-shares rows r,
        ap (λ (t : Table). entries_of t.rows) all,
        ap (λ (t : Table). entries_of t.rows) first.same,
        sum_by-map-range_with_len_more (λ (row : Row). length row.shares) (row_in rows) 0 r r place,
      );
    }
