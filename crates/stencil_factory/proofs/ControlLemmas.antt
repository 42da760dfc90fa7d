-- The rows of control points.
use Rattle.std.proofs.Common.{◌≡◌, ℕ, zero, suc, ◌+◌, [], ◌∷◌, length, map, arith, refl, ap, sym, ◌∙◌}
use Rattle.std.specs.List.{range_with_len}
use Rattle.std.proofs.lemmas.List.FromFn.{length-map-range_with_len, map-range_with_len_more}
use Rattle.std.proofs.lemmas.List.Sums.{sum_by-cons}
use Rattle.stencil_apply.specs.Table.{Row, Table, entries_of}
use Rattle.stencil_apply.specs.Built.{with_row}

abbrev pub own_row : ℕ → Row
own_row v = record { den = 1; shares = (v, 1) ∷ [] }

-- the first rows
abbrev pub own_rows : ℕ → ℕ → Table
own_rows points n = record { controls = points; rows = map own_row (range_with_len 0 n) }

pub rows-count : (points n : ℕ) → length (own_rows points n).rows ≡ n
rows-count points n = length-map-range_with_len own_row 0 n

-- each has one entry
pub entries-count : (a n : ℕ) → entries_of (map own_row (range_with_len a n)) ≡ n
entries-count a zero = refl
entries-count a (suc n) = omega (arith, sum_by-cons (λ (row : Row). length row.shares) (own_row a) (map own_row (range_with_len (a + 1) n)), entries-count (a + 1) n)

pub rows-more : (points n : ℕ) (table : Table) → table ≡ own_rows points n → with_row (own_row n) table ≡ own_rows points (n + 1)
rows-more points n table h =
    ap (with_row (own_row n)) h ∙ ap (λ rows. record { controls = points; rows = rows }) (sym (map-range_with_len_more own_row 0 n n (omega arith)))
