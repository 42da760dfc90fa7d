-- The places of the entries of rows.
use Rattle.std.proofs.Common.{◌≡◌, ℕ, zero, suc, ◌+◌, ◌<◌, ◌≤◌, List, [], ◌∷◌, ◌++◌, length, take, get_or, set, arith, ap, sym, ◌∙◌}
use Rattle.std.proofs.lemmas.List.{take_all, take_more, take_more_set}
use Rattle.std.proofs.lemmas.List.Sums.{sum_by-cons}
use Rattle.flat_arrays.proofs.PartLemmas.{counts-more, counts-room, counts-all}
use Rattle.subdiv_model.specs.Table.{Row, entries_of}
use Rattle.table_arrays.specs.Flat.{starts_from, row_starts}

abbrev pub blank : Row
blank = record { den = 1; shares = [] }

-- the entries of one row more
pub entries-more : (rows : List Row) (i at len : ℕ) → i < length rows → at ≡ entries_of (take i rows) → len ≡ length (get_or rows i blank).shares →
    at + len ≡ entries_of (take (i + 1) rows)
entries-more rows i = counts-more (λ row. length row.shares) rows i blank

-- the entries of one row more are no more than those of all rows
pub entries-fit : (rows : List Row) (i at len : ℕ) → i < length rows → at ≡ entries_of (take i rows) → len ≡ length (get_or rows i blank).shares →
    at + len ≤ entries_of rows
entries-fit rows i = counts-room (λ row. length row.shares) rows i blank

pub entries-all : (rows : List Row) (i at : ℕ) → length rows ≤ i → at ≡ entries_of (take i rows) → at ≡ entries_of rows
entries-all rows = counts-all (λ row. length row.shares) rows

-- the starts of rows are one more than the rows
pub length-starts : (at : ℕ) (rows : List Row) → length (starts_from at rows) ≡ length rows + 1
length-starts at [] = omega arith
length-starts at (row ∷ rows) = omega (arith, length-starts (at + length row.shares) rows)

start-at : (at : ℕ) (rows : List Row) (i d : ℕ) → i ≤ length rows → get_or (starts_from at rows) i d ≡ at + entries_of (take i rows)
start-at at [] zero d h = omega arith
start-at at [] (suc i) d h = absurd (omega (arith, h))
start-at at (row ∷ rows) zero d h = omega arith
start-at at (row ∷ rows) (suc i) d h =
    omega (arith, start-at (at + length row.shares) rows i d (omega (arith, h)), sum_by-cons (λ (r : Row). length r.shares) row (take i rows))

-- the starts of one row more
pub starts-more : (rows : List Row) (out : List ℕ) (i at : ℕ) → i ≤ length rows → i < length out → at ≡ entries_of (take i rows) → take i out ≡ take i (row_starts rows) →
    take (i + 1) (set out i at) ≡ take (i + 1) (row_starts rows)
starts-more rows out i at h inside e f =
    let here : at ≡ get_or (row_starts rows) i 0 = omega (arith, e, start-at 0 rows i 0 h) in
    take_more_set out i at inside
    ∙ ap (λ xs. xs ++ at ∷ []) f
    ∙ ap (λ x. take i (row_starts rows) ++ x ∷ []) here
    ∙ sym (take_more (row_starts rows) i 0 (omega (arith, h, length-starts 0 rows)))

-- all starts, and the end of the last row
pub starts-end : (rows : List Row) (out : List ℕ) (i n at : ℕ) → length rows < length out → i ≡ length rows → n ≡ length rows → at ≡ entries_of (take i rows) →
    take i out ≡ take i (row_starts rows) → take (length rows + 1) (set out n at) ≡ row_starts rows
starts-end rows out i n at there d e f so_far =
    ap (λ k. take (length rows + 1) (set out k at)) (e ∙ sym d)
    ∙ ap (λ k. take (k + 1) (set out i at)) (sym d)
    ∙ starts-more rows out i at (omega (arith, d)) (omega (arith, d, there)) f so_far
    ∙ take_all (i + 1) (row_starts rows) (omega (arith, d, length-starts 0 rows))
