-- The entries of a row of a caller's arrays, and the test of whether they are a row.
use Rattle.std.proofs.Common.{◌≡◌, ℕ, ◌+◌, ◌-◌, ◌≤◌, Bool, true, false, nat_eq, List, [], ◌∷◌, ◌++◌, length, map, get_or, arith, ap, sym, ◌∙◌, eqb-true, eq-eqb, true≢false}
use Rattle.std.specs.List.{range_with_len}
use Rattle.std.proofs.lemmas.Bool.{and_parts, and_from}
use Rattle.std.proofs.lemmas.List.{map-append}
use Rattle.std.proofs.lemmas.List.FromFn.{map-range_with_len_more}
use Rattle.subdiv_model.specs.ReadTable.{is_row_in_range}
use Rattle.subdiv_model.specs.Table.{Share, Row, IsRow, total_of}
use Rattle.table_laws.proofs.RowLemmas.{row-in-range}
use Rattle.table_laws.proofs.WrittenLemmas.{is-row}
use Rattle.stencil_apply.specs.Arrays.{row_of, shares_of}
use Rattle.stencil_apply.specs.declared.entry.Entry.{Entry}
use Rattle.table_arrays.specs.Entries.{IsJudged, is_row}
use Rattle.table_arrays.specs.Rows.{number_at, row_in, share_at, share_range, start_of}
use Rattle.table_arrays.specs.declared.exact_rows.ExactRows.{ExactRows}

-- one more entry
pub shares-more : (rows : ExactRows) (from at numerator : ℕ) (items new : List Entry) → from ≤ at → shares_of items ≡ share_range rows from at
    → numerator ≡ number_at rows.numerators.now at → new ≡ items ++ (record { index = get_or rows.indices.now at 0; numerator = numerator }) ∷ []
    → shares_of new ≡ share_range rows from (at + 1)
shares-more rows from at numerator items new forward so_far is pushed =
    let entry : Entry = record { index = get_or rows.indices.now at 0; numerator = numerator } in
    let count : at + 1 - from ≡ at - from + 1 = omega arith in
    let place : from + (at - from) ≡ at = omega arith in
    ap shares_of pushed
    ∙ map-append (λ (e : Entry). (e.index, e.numerator)) items (entry ∷ [])
    ∙ ap (λ (shares : List Share). shares ++ (get_or rows.indices.now at 0, numerator) ∷ []) so_far
    ∙ ap (λ n. share_range rows from at ++ (get_or rows.indices.now at 0, n) ∷ []) is
    ∙ sym (map-range_with_len_more (share_at rows) from (at - from) at place)
    ∙ ap (λ n. map (share_at rows) (range_with_len from n)) (sym count)

-- the test decides whether the entries are a row
row-passed : (controls : ℕ) (row : Row) → is_row controls row ≡ true → IsRow controls row
row-passed controls row passed =
    let both = and_parts (is_row_in_range controls row) (nat_eq (total_of row.shares) row.den) passed in
    is-row controls row both.0 (eqb-true (total_of row.shares) row.den both.1)

passes : (controls : ℕ) (row : Row) → IsRow controls row → is_row controls row ≡ true
passes controls row is =
    and_from (is_row_in_range controls row) (nat_eq (total_of row.shares) row.den) (row-in-range controls row is) (eq-eqb (total_of row.shares) row.den is.whole)

-- copied entries are those of the row
pub same-row : (rows : ExactRows) (r den : ℕ) (items entries : List Entry) → shares_of items ≡ (row_in rows r).shares → den ≡ number_at rows.denominators.now r → entries ≡ items
    → row_of den entries ≡ row_in rows r
same-row rows r den items entries are d same =
    ap (row_of den) same
    ∙ ap (λ (shares : List Share). record { den = den; shares = shares }) are
    ∙ ap (λ (n : ℕ). record { den = n; shares = (row_in rows r).shares }) d

-- a row within the arrays is valid exactly if it passes the test
pub judged : (rows : ExactRows) (r den : ℕ) (items entries : List Entry) (good : Bool) → start_of rows r ≤ start_of rows (r + 1) → start_of rows (r + 1) ≤ length rows.indices.now
    → shares_of items ≡ (row_in rows r).shares → den ≡ number_at rows.denominators.now r → entries ≡ items → good ≡ is_row rows.controls (row_of den entries)
    → IsJudged rows r items good
judged rows r den items entries good forward inside are d same test = by good (test ∙ ap (is_row rows.controls) (same-row rows r den items entries are d same))
  where
    by : (b : Bool) → b ≡ is_row rows.controls (row_in rows r) → IsJudged rows r items b
    by true passed = (record { forward = forward; inside = inside; is_row = row-passed rows.controls (row_in rows r) (sym passed) }, are)
    by false failed = λ is. true≢false (sym (passes rows.controls (row_in rows r) is.is_row) ∙ sym failed)
