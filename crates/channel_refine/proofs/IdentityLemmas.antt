-- The table of the control points themselves, and the rows of any table.
use Rattle.std.proofs.Common.{◌≡◌, ℕ, zero, suc, ◌+◌, ◌<◌, max, ℤ, pos, ◌+ℤ◌, ◌*ℤ◌, List, [], ◌∷◌, length, map, get_or, arith, refl, ap, sym, ◌∙◌, zero-add}
use Rattle.std.specs.List.{fold, range_with_len, sum_by}
use Rattle.std.proofs.Math.ListN.{get_or-map as get_or-map_all}
use Rattle.std.proofs.lemmas.Int.{ints}
use Rattle.std.proofs.lemmas.List.{get_or-map, length-map}
use Rattle.std.proofs.lemmas.List.FromFn.{length-map-range_with_len, get_or-map-range_with_len}
use Rattle.std.proofs.lemmas.List.Sums.{sum_by-cons}
use Rattle.subdiv_model.specs.Value.{Value, IsSameValue, whole_value}
use Rattle.subdiv_model.specs.Refined.{point_value, control_values}
use Rattle.stencil_apply.specs.Table.{Share, Row, Table, row_at, entries_of, greatest_of}
use Rattle.stencil_factory.specs.Rows.{support_of, share_sum, row_values, AreSameValues}
use Rattle.stencil_factory.specs.Composed.{identity_table}

-- the row of a control point
abbrev own_row : ℕ → Row
own_row v = record { den = 1; shares = (v, 1) ∷ [] }

pub identity-dens : (a n : ℕ) → map (λ (row : Row). row.den) (map (λ v. record { den = 1; shares = (v, 1) ∷ [] }) (range_with_len a n)) ≡ map (λ v. 1) (range_with_len a n)
identity-dens a zero = refl
identity-dens a (suc n) = ap (λ dens. 1 ∷ dens) (identity-dens (a + 1) n)

pub identity-supports : (a n : ℕ) → map (λ (row : Row). support_of row.shares) (map (λ v. record { den = 1; shares = (v, 1) ∷ [] }) (range_with_len a n)) ≡ map (λ v. v ∷ []) (range_with_len a n)
identity-supports a zero = refl
identity-supports a (suc n) = ap (λ supports. (a ∷ []) ∷ supports) (identity-supports (a + 1) n)

-- no denominator is above 1
ones-greatest : (a n : ℕ) → fold max 1 (map (λ v. 1) (range_with_len a n)) ≡ 1
ones-greatest a zero = refl
ones-greatest a (suc n) = ones-greatest (a + 1) n

pub identity-greatest : (n : ℕ) → greatest_of (identity_table n) ≡ 1
identity-greatest n = ap (fold max 1) (identity-dens 0 n) ∙ ones-greatest 0 n

-- the value of a row
pub value-row : (table : Table) (numbers : List ℤ) (p : ℕ) → p < length table.rows
    → point_value (row_values table numbers) p ≡ record { num = share_sum numbers (row_at table p).shares; den = (row_at table p).den }
value-row table numbers p h =
    get_or-map (λ (row : Row). record { num = share_sum numbers row.shares; den = row.den }) table.rows p (record { den = 1; shares = [] }) (whole_value (pos 0)) h

-- the values of the control points are their numbers
pub identity-values : (numbers : List ℤ) (n : ℕ) → length numbers ≡ n → AreSameValues (control_values numbers) (row_values (identity_table n) numbers)
identity-values numbers n count = record {
  count = length-map numbers whole_value ∙ count ∙ sym rows ∙ sym values;
  same = λ p h. at p (omega (arith, h, rows, values));
}
  where
    rows : length (identity_table n).rows ≡ n
    rows = length-map-range_with_len own_row 0 n

    values : length (row_values (identity_table n) numbers) ≡ length (identity_table n).rows
    values = length-map {B = Value} (identity_table n).rows (λ (row : Row). record { num = share_sum numbers row.shares; den = row.den })

    own : (x : ℤ) → x *ℤ pos 1 ≡ (pos 1 *ℤ x +ℤ pos 0) *ℤ pos 1
    own x = omega (arith, ints)

    at : (p : ℕ) → p < n → IsSameValue (point_value (control_values numbers) p) (point_value (row_values (identity_table n) numbers) p)
    at p h =
        let left : point_value (control_values numbers) p ≡ whole_value (get_or numbers p (pos 0)) = get_or-map_all whole_value numbers p (pos 0) in
        let row : row_at (identity_table n) p ≡ own_row p = get_or-map-range_with_len own_row 0 n p p (record { den = 1; shares = [] }) h (zero-add p) in
        let right : point_value (row_values (identity_table n) numbers) p ≡ record { num = pos 1 *ℤ get_or numbers p (pos 0) +ℤ pos 0; den = 1 } =
        value-row (identity_table n) numbers p (omega (arith, h, rows)) ∙ ap (λ (r : Row). record { num = share_sum numbers r.shares; den = r.den }) row in
        rw (left, right) (own (get_or numbers p (pos 0)))

-- the entries of rows are those of their supports
pub entries-by-support : (rows : List Row) → sum_by length (map (λ (row : Row). support_of row.shares) rows) ≡ entries_of rows
entries-by-support [] = refl
entries-by-support (row ∷ rows) =
    let supports = map (λ (r : Row). support_of r.shares) rows in
    omega (
      arith,
      sum_by-cons length (support_of row.shares) supports,
      sum_by-cons (λ (r : Row). length r.shares) row rows,
      length-map row.shares (λ (share : Share). share.0),
      entries-by-support rows,
    )
