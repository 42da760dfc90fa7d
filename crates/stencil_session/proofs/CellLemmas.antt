-- The entries of a table, row by row.
use Rattle.std.proofs.Common.{◌≡◌, ℕ, zero, suc, ◌+◌, ◌^◌, ◌<◌, ◌≤◌, cond, nat_eq, List, [], ◌∷◌, ◌++◌, length, map, get_or, set, take, drop, arith, refl, ap, sym, ◌∙◌, subst, append_assoc, append-nil, add-one, inl, inr}
use Rattle.std.specs.List.{count_by}
use Rattle.std.proofs.Math.Seq.{drop-cons}
use Rattle.std.proofs.lemmas.Bool.{cases_eq}
use Rattle.std.proofs.lemmas.Bool.Decides.{nat_tests}
use Rattle.std.proofs.lemmas.List.{take_more, take_all, take-append-drop, length-append, length-map, length-set, get_or-map, get_or_default, get_or-set_same, get_or-set_other}
use Rattle.std.proofs.lemmas.List.Sums.{sum_by-cons, sum_by_push, count_by-le-length}
use Rattle.stencil_apply.specs.Table.{Share, Row, Table, IsTable, row_at, entries_of}
use Rattle.stencil_session.specs.Columns.{Cell, cells_of, cells_from, cells_before, is_of, AreCounts}

abbrev pub blank : Row
blank = record { den = 1; shares = [] }

-- an entry of a row
pub length-cells_of : (number : ℕ) (row : Row) → length (cells_of number row) ≡ length row.shares
length-cells_of number row = length-map row.shares (λ (share : Share). (share.0, number, share.1))

pub cell-at : (number : ℕ) (row : Row) (at : ℕ) → at < length row.shares → get_or (cells_of number row) at (0, 0, 0) ≡ ((get_or row.shares at (0, 0)).0, number, (get_or row.shares at (0, 0)).1)
cell-at number row at h = get_or-map (λ (share : Share). (share.0, number, share.1)) row.shares at (0, 0) (0, 0, 0) h

-- the entries of all rows are those before a row, those of the row, and those behind it
pub cells-cut : (first : ℕ) (rows : List Row) (k : ℕ) → cells_from first rows ≡ cells_from first (take k rows) ++ cells_from (first + k) (drop k rows)
cells-cut first rows zero = ap (λ n. cells_from n rows) (omega arith)
cells-cut first [] (suc k) = refl
cells-cut first (row ∷ rows) (suc k) =
    ap (λ cells. cells_of first row ++ cells) (cells-cut (first + 1) rows k ∙ ap (λ n. cells_from (first + 1) (take k rows) ++ cells_from n (drop k rows)) (omega arith))
    ∙ sym (append_assoc (cells_of first row) (cells_from (first + 1) (take k rows)) (cells_from (first + suc k) (drop k rows)))

cells-step : (first : ℕ) (rows : List Row) (k : ℕ) → k < length rows → cells_from first (take (suc k) rows) ≡ cells_from first (take k rows) ++ cells_of (first + k) (get_or rows k blank)
cells-step first [] k h = absurd (omega arith)
cells-step first (row ∷ rows) zero h = append-nil (cells_of first row) ∙ ap (λ n. cells_of n row) (omega arith)
cells-step first (row ∷ rows) (suc k) h =
    ap (λ cells. cells_of first row ++ cells) (cells-step (first + 1) rows k (omega arith) ∙ ap (λ n. cells_from (first + 1) (take k rows) ++ cells_of n (get_or rows k blank)) (omega arith))
    ∙ sym (append_assoc (cells_of first row) (cells_from (first + 1) (take k rows)) (cells_of (first + suc k) (get_or rows k blank)))

pub length-cells : (first : ℕ) (rows : List Row) → length (cells_from first rows) ≡ entries_of rows
length-cells first [] = refl
length-cells first (row ∷ rows) =
    omega (arith, length-append (cells_of first row) (cells_from (first + 1) rows), length-cells_of first row, length-cells (first + 1) rows, sum_by-cons (λ (r : Row). length r.shares) row rows)

-- the entries before one of a row of a table, that one, and those behind it
module _ (table : Table) (row : ℕ) (inside : row < length table.rows) where
  abbrev pub done : ℕ → List Cell
  done at = cells_before table row ++ take at (cells_of row (row_at table row))

  abbrev pub cell : ℕ → Cell
  cell at = ((get_or (row_at table row).shares at (0, 0)).0, row, (get_or (row_at table row).shares at (0, 0)).1)

  row-cells : cells_before table (row + 1) ≡ cells_before table row ++ cells_of row (row_at table row)
  row-cells =
      let none : 0 + row ≡ row = omega arith in
      ap (λ n. cells_from 0 (take n table.rows)) (add-one row)
      ∙ cells-step 0 table.rows row inside
      ∙ ap (λ n. cells_before table row ++ cells_of n (row_at table row)) none

  pub done-more : (at : ℕ) → at < length (row_at table row).shares → done (at + 1) ≡ done at ++ cell at ∷ []
  done-more at h =
      ap (λ cells. cells_before table row ++ cells) (take_more (cells_of row (row_at table row)) at (0, 0, 0) (omega (arith, h, length-cells_of row (row_at table row))))
      ∙ sym (append_assoc (cells_before table row) (take at (cells_of row (row_at table row))) (get_or (cells_of row (row_at table row)) at (0, 0, 0) ∷ []))
      ∙ ap (λ c. done at ++ c ∷ []) (cell-at row (row_at table row) at h)

  pub done-all : (at : ℕ) → length (row_at table row).shares ≤ at → done at ≡ cells_before table (row + 1)
  done-all at h =
      ap (λ cells. cells_before table row ++ cells) (take_all at (cells_of row (row_at table row)) (omega (arith, h, length-cells_of row (row_at table row))))
      ∙ sym row-cells

  pub done-rest : (at : ℕ) → at < length (row_at table row).shares → (rest : List Cell) × (cells_from 0 table.rows ≡ done at ++ cell at ∷ rest)
  done-rest at h =
      let cells = cells_of row (row_at table row) in
      let before = cells_before table row in
      let behind = cells_from (0 + (row + 1)) (drop (row + 1) table.rows) in
      let parts : cells ≡ take at cells ++ cell at ∷ drop (suc at) cells =
      sym (take-append-drop at cells)
      ∙ ap (λ xs. take at cells ++ xs) (drop-cons cells at (0, 0, 0) (omega (arith, h, length-cells_of row (row_at table row))) ∙ ap (λ c. c ∷ drop (suc at) cells) (cell-at row (row_at table row) at h)) in (
        drop (suc at) cells ++ behind,
        cells-cut 0 table.rows (row + 1)
            ∙ ap (λ xs. xs ++ behind) (row-cells ∙ ap (λ xs. before ++ xs) parts)
            ∙ simp append_assoc,
      )

-- one entry more is counted
pub count-more : (i : ℕ) (cells : List Cell) (entry : Cell) → count_by (is_of i) (cells ++ entry ∷ []) ≡ count_by (is_of i) cells + cond (nat_eq entry.0 i) 1 0
count-more i cells entry = sum_by_push (λ c. cond (is_of i c) 1 0) cells entry

pub AreCounts-more : (controls : ℕ) (cells : List Cell) (counts : List ℕ) (entry : Cell) → AreCounts controls cells counts → entry.0 < controls → AreCounts controls (cells ++ entry ∷ []) (set counts entry.0 (get_or counts entry.0 0 + 1))
AreCounts-more controls cells counts entry are inside = record {
  long = length-set counts entry.0 (get_or counts entry.0 0 + 1) ∙ are.long;
  each = λ i h. elim (cases_eq i entry.0) [
    | inl same ↦
        let here = get_or-set_same counts entry.0 (get_or counts entry.0 0 + 1) 0 (omega (arith, inside, are.long)) in
        let there : get_or (set counts entry.0 (get_or counts entry.0 0 + 1)) i 0 ≡ get_or counts i 0 + 1 =
        subst (λ j. get_or (set counts entry.0 (get_or counts entry.0 0 + 1)) j 0 ≡ get_or counts j 0 + 1) (sym same) here in
        let one : ◌≡◌ {A = ℕ} (cond (nat_eq entry.0 i) 1 0) 1 = grind (arith, nat_tests) in
        omega (arith, there, are.each i h, count-more i cells entry, one)
    | inr other ↦
        let here = get_or-set_other counts entry.0 i (get_or counts entry.0 0 + 1) 0 other in
        let none : ◌≡◌ {A = ℕ} (cond (nat_eq entry.0 i) 1 0) 0 = grind (arith, nat_tests) in
        omega (arith, here, are.each i h, count-more i cells entry, none)
  ];
}

-- a count of entries before one is less than how many entries there are
pub count-short : (controls : ℕ) (cells rest all : List Cell) (entry : Cell) (counts : List ℕ) (i : ℕ) → AreCounts controls cells counts → i < controls → all ≡ cells ++ entry ∷ rest → get_or counts i 0 < length all
count-short controls cells rest all entry counts i are inside e =
    omega (arith, are.each i inside, count_by-le-length (is_of i) cells, ap length e, length-append cells (entry ∷ rest))

-- there are at most 2^27 entries
pub cells-few : (table : Table) → IsTable table → length (cells_from 0 table.rows) ≤ 2 ^ 27
cells-few table is = omega (arith, length-cells 0 table.rows, is.entries_few)

-- once all controls of a row are read, all its entries are done
pub row-done : (table : Table) (row : ℕ) (inside : row < length table.rows) (indices : List ℕ) → indices ≡ map (λ share. share.0) (row_at table row).shares → (at : ℕ) → length indices ≤ at → done table row inside at ≡ cells_before table (row + 1)
row-done table row inside indices named at past =
    done-all table row inside at (omega (arith, past, ap length named, length-map (row_at table row).shares (λ (share : Share). share.0)))

-- an entry of a row, whose control is read from the table
module _ (table : Table) (is : IsTable table) (row : ℕ) (inside : row < length table.rows) (indices : List ℕ) (named : indices ≡ map (λ share. share.0) (row_at table row).shares) (at : ℕ) (h : at < length indices) where
  pub at-share : at < length (row_at table row).shares
  at-share = omega (arith, h, ap length named, length-map (row_at table row).shares (λ (share : Share). share.0))

  pub control-is : get_or indices at 0 ≡ (cell table row inside at).0
  control-is = ap (λ xs. get_or xs at 0) named ∙ get_or-map (λ (share : Share). share.0) (row_at table row).shares at (0, 0) 0 at-share

  pub control-inside : (cell table row inside at).0 < table.controls
  control-inside = (is.rows row blank inside).inside at (0, 0) at-share

  module _ (counts : List ℕ) (are : AreCounts table.controls (done table row inside at) counts) where
    pub in-counts : get_or indices at 0 < length counts
    in-counts = omega (arith, control-is, control-inside, are.long)

    -- the count of a control's entries still fits after one more
    count-is : (count : ℕ) → count ≡ get_or counts (get_or indices at 0) count → count ≡ get_or counts (get_or indices at 0) 0
    count-is count read = read ∙ get_or_default counts (get_or indices at 0) count 0 in-counts

    pub count-few : (count : ℕ) → count ≡ get_or counts (get_or indices at 0) count → count + 1 ≤ 2 ^ 27
    count-few count read =
        let e = count-is count read in
        let rest = done-rest table row inside at at-share in
        let short = count-short table.controls (done table row inside at) rest.0 (cells_from 0 table.rows) (cell table row inside at) counts (get_or indices at 0) are (omega (arith, control-is, control-inside)) rest.1 in
        omega (arith, e, short, cells-few table is)

    pub counted : (count : ℕ) → count ≡ get_or counts (get_or indices at 0) count → AreCounts table.controls (done table row inside (at + 1)) (set counts (get_or indices at 0) (count + 1))
    counted count read =
        let e = count-is count read in
        rw (done-more table row inside at at-share, e, control-is)
        (AreCounts-more table.controls (done table row inside at) counts (cell table row inside at) are control-inside)
