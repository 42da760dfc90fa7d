-- Rows of points, each times the amount of a weight, from the first weight of a slice on.
use Rattle.std.proofs.Common.{◌≡◌, ℕ, zero, suc, ◌-◌, ◌*◌, ◌/◌, ◌+◌, ◌<◌, ◌≤◌, List, [], ◌∷◌, ◌++◌, length, get_or, take, drop, arith, refl, ap, sym, ◌∙◌, subst}
use Rattle.std.proofs.lemmas.List.{map-append}
use Rattle.std.proofs.lemmas.List.Sums.{sum_by-append, sum_by-cons}
use Rattle.stencil_apply.specs.Table.{Share, Table, IsTable, row_at, total_of}
use Rattle.stencil_factory.specs.Rows.{dens_of}
use Rattle.place_sums.specs.Sums.{added_shares, sum_of}
use Rattle.stencil_factory.specs.Composing.{added_rows, rows_total, CanAddRows}
use Rattle.stencil_factory.specs.Joined.{amounts_of, weighing}
use Rattle.stencil_factory.proofs.AddedLemmas.{all-first, all-second}
use Rattle.stencil_factory.proofs.RowSumLemmas.{length-added_rows, sum-added_rows, row-is}
use Rattle.stencil_factory.proofs.PutLemmas.{weighing-split, one-some}

-- rows after others
rows-append : (table : Table) (xs ys : List Share) (sums : List ℕ) → added_rows table (xs ++ ys) sums ≡ added_rows table ys (added_rows table xs sums)
rows-append table [] ys sums = refl
rows-append table (x ∷ xs) ys sums = rows-append table xs ys (added_shares x.1 (row_at table x.0).shares sums)

-- where all can be added, the first can, and then the rest
module _ (table : Table) (is : IsTable table) (most : ℕ) (xs ys : List Share) (sums : List ℕ) (can : CanAddRows most table (xs ++ ys) sums) where
  both : sum_of sums + rows_total table xs + rows_total table ys ≤ most
  both = omega (arith, can.fits, sum_by-append (λ (w : Share). w.1 * total_of (row_at table w.0).shares) xs ys)

  rows-first : CanAddRows most table xs sums
  rows-first = record {
    places = can.places;
    inside = all-first (λ (w : Share). w.0 < length table.rows) xs ys can.inside;
    each = all-first (λ (w : Share). 0 < w.1) xs ys can.each;
    fits = omega (arith, both);
  }

  rows-second : CanAddRows most table ys (added_rows table xs sums)
  rows-second = record {
    places = length-added_rows table xs sums ∙ can.places;
    inside = all-second (λ (w : Share). w.0 < length table.rows) xs ys can.inside;
    each = all-second (λ (w : Share). 0 < w.1) xs ys can.each;
    fits = omega (arith, both, sum-added_rows table is most xs sums rows-first);
  }

-- a round of the loop over weights
module _ (table : Table) (is : IsTable table) (m : ℕ) (rest : List Share) (some : 1 ≤ length rest) where
  abbrev amounts : List Share → List Share
  amounts shares = amounts_of (dens_of table) m (weighing shares)

  abbrev first : Share
  first = get_or rest 0 (0, 0)

  abbrev others : List Share
  others = take (length rest - 1) (drop 1 rest)

  split : amounts rest ≡ amounts (first ∷ []) ++ amounts others
  split =
      ap (amounts_of (dens_of table) m) (weighing-split rest some)
      ∙ map-append (λ (share : Share). (share.0, share.1 * (m / get_or (dens_of table) share.0 1))) (weighing (first ∷ [])) (weighing others)

  module _ (most : ℕ) (sums : List ℕ) (can : CanAddRows most table (amounts rest) sums) where
    here : CanAddRows most table (amounts (first ∷ []) ++ amounts others) sums
    here = subst (λ ws. CanAddRows most table ws sums) split can

    pub first-rows : CanAddRows most table (amounts (first ∷ [])) sums
    first-rows = rows-first table is most (amounts (first ∷ [])) (amounts others) sums here

    pub others-rows : (new : List ℕ) → new ≡ added_rows table (amounts (first ∷ [])) sums → CanAddRows most table (amounts others) new
    others-rows new added = subst (CanAddRows most table (amounts others)) (sym added) (rows-second table is most (amounts (first ∷ [])) (amounts others) sums here)

  pub others-added : (sums new : List ℕ) → new ≡ added_rows table (amounts (first ∷ [])) sums → added_rows table (amounts others) new ≡ added_rows table (amounts rest) sums
  others-added sums new added =
      ap (added_rows table (amounts others)) added ∙ sym (rows-append table (amounts (first ∷ [])) (amounts others) sums)
      ∙ sym (ap (λ ws. added_rows table ws sums) split)

-- one weight
module _ (table : Table) (is : IsTable table) (m : ℕ) (weight : Share) (some : weight.1 ≡ 0 → ⊥) where
  abbrev amount : ℕ
  amount = weight.1 * (m / get_or (dens_of table) weight.0 1)

  own : amounts_of (dens_of table) m (weighing (weight ∷ [])) ≡ (weight.0, amount) ∷ []
  own = ap (amounts_of (dens_of table) m) (one-some weight some)

  pub one-added : (sums new : List ℕ) → new ≡ added_shares amount (row_at table weight.0).shares sums → new ≡ added_rows table (amounts_of (dens_of table) m (weighing (weight ∷ []))) sums
  one-added sums new added = added ∙ sym (ap (λ ws. added_rows table ws sums) own)

  module _ (most : ℕ) (sums : List ℕ) (can : CanAddRows most table (amounts_of (dens_of table) m (weighing (weight ∷ []))) sums) where
    single : CanAddRows most table ((weight.0, amount) ∷ []) sums
    single = subst (λ ws. CanAddRows most table ws sums) own can

    pub one-above : 0 < amount
    one-above = single.each.0

    pub one-fits : sum_of sums + amount * total_of (row_at table weight.0).shares ≤ most
    one-fits = omega (arith, single.fits, sum_by-cons (λ (w : Share). w.1 * total_of (row_at table w.0).shares) (weight.0, amount) [])

    pub one-small : amount ≤ most
    one-small =
        let row = row-is table is weight.0 single.inside.0 in
        omega (arith, one-fits, grows amount (total_of (row_at table weight.0).shares) (omega (arith, row.positive, row.whole)))
      where
        grows : (a d : ℕ) → 0 < d → a ≤ a * d
        grows a zero h = absurd (omega (arith, h))
        grows a (suc d) h = omega arith
