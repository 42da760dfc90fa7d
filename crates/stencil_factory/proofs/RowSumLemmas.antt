-- Rows added to sums, each times a weight.
use Rattle.std.proofs.Common.{◌≡◌, ℕ, ◌+◌, ◌*◌, ◌<◌, ◌≤◌, nat_lt, ◌||◌, ℤ, pos, ◌+ℤ◌, ◌*ℤ◌, List, [], ◌∷◌, length, map, get_or, drop, arith, refl, ap, sym, ◌∙◌, subst}
use Rattle.std.specs.List.{All, AllByRecursion, list_any, zip}
use Rattle.std.proofs.Math.IntN.{+ℤ_idr, +ℤ_assoc}
use Rattle.std.proofs.Math.ListN.{get_or-map}
use Rattle.std.proofs.Math.Bool.{or_assoc, or-false}
use Rattle.std.proofs.lemmas.List.{drop_more, length-map, map-id}
use Rattle.std.proofs.lemmas.List as list
use Rattle.std.proofs.lemmas.List.Elements.{All-map, recursion_from_All}
use Rattle.std.proofs.lemmas.List.Sums.{sum_by-cons}
use Rattle.subdiv_model.specs.Polygons.{is_among}
use Rattle.stencil_apply.specs.Table.{Share, Row, Table, IsRow, IsTable, row_at, total_of}
use Rattle.stencil_factory.specs.Rows.{support_of, share_sum, dens_of}
use Rattle.place_sums.specs.Sums.{added_shares, sum_of, dense_sum}
use Rattle.stencil_factory.specs.Composing.{added_rows, rows_total, CanAddRows}
use Rattle.place_sums.proofs.PairLemmas.{zip-parts}
use Rattle.place_sums.proofs.EntryLemmas.{number-there}
use Rattle.place_sums.proofs.SumLemmas.{length-added_shares, sum-added_shares, some-added_shares, dense_sum-added_shares}

abbrev pub row_numbers : Table → List ℤ → List ℤ
row_numbers table numbers = map (λ row. share_sum numbers row.shares) table.rows

-- The number that a row gives for control numbers.
number-at : (table : Table) (numbers : List ℤ) (u : ℕ) → get_or (row_numbers table numbers) u (pos 0) ≡ share_sum numbers (row_at table u).shares
number-at table numbers u = get_or-map (λ (row : Row). share_sum numbers row.shares) table.rows u (record { den = 1; shares = [] })

-- there are as many sums as before
pub length-added_rows : (table : Table) (weights : List Share) (sums : List ℕ) → length (added_rows table weights sums) ≡ length sums
length-added_rows table [] sums = refl
length-added_rows table (weight ∷ weights) sums =
    length-added_rows table weights (added_shares weight.1 (row_at table weight.0).shares sums) ∙ length-added_shares weight.1 (row_at table weight.0).shares sums

module _ (table : Table) (is : IsTable table) where
  pub row-is : (u : ℕ) → u < length table.rows → IsRow table.controls (row_at table u)
  row-is u h = is.rows u _ h

  -- the shares of a row have places
  row-inside : (u : ℕ) (sums : List ℕ) → u < length table.rows → length sums ≡ table.controls → AllByRecursion (λ share. share.0 < length sums) (row_at table u).shares
  row-inside u sums h same =
      recursion_from_All (λ (share : Share). share.0 < length sums) (row_at table u).shares
      (subst (λ n. All (λ (share : Share). share.0 < n) (row_at table u).shares) (sym same) (row-is u h).inside)

  -- their sum is the denominator
  pub row-total : (u : ℕ) → u < length table.rows → total_of (row_at table u).shares ≡ get_or (dens_of table) u 1
  row-total u h = (row-is u h).whole ∙ sym (get_or-map (λ (row : Row). row.den) table.rows u (record { den = 1; shares = [] }))

  -- one row is added, and the others can be
  can-more : (most : ℕ) (weight : Share) (weights : List Share) (sums : List ℕ) → CanAddRows most table (weight ∷ weights) sums
      → CanAddRows most table weights (added_shares weight.1 (row_at table weight.0).shares sums)
  can-more most weight weights sums can =
      let shares = (row_at table weight.0).shares in
      let more = sum-added_shares weight.1 shares sums (row-inside weight.0 sums can.inside.0 can.places) in
      let all = sum_by-cons (λ (w : Share). w.1 * total_of (row_at table w.0).shares) weight weights in
      record {
        places = length-added_shares weight.1 shares sums ∙ can.places;
        inside = can.inside.1;
        each = can.each.1;
        fits = omega (arith, more, all, can.fits);
      }

  -- all sums together
  pub sum-added_rows : (most : ℕ) (weights : List Share) (sums : List ℕ) → CanAddRows most table weights sums → sum_of (added_rows table weights sums) ≡ sum_of sums + rows_total table weights
  sum-added_rows most [] sums can = omega arith
  sum-added_rows most (weight ∷ weights) sums can =
      let shares = (row_at table weight.0).shares in
      let more = sum-added_shares weight.1 shares sums (row-inside weight.0 sums can.inside.0 can.places) in
      let all = sum_by-cons (λ (w : Share). w.1 * total_of (row_at table w.0).shares) weight weights in
      omega (arith, more, all, sum-added_rows most weights (added_shares weight.1 shares sums) (can-more most weight weights sums can))

  -- a place is above 0 where it was, or where one of the rows has it
  pub some-added_rows : (most v : ℕ) (weights : List Share) (sums : List ℕ) → CanAddRows most table weights sums
      → nat_lt 0 (get_or (added_rows table weights sums) v 0) ≡ (nat_lt 0 (get_or sums v 0) || list_any (λ w. is_among (support_of (row_at table w.0).shares) v) weights)
  some-added_rows most v [] sums can = sym (or-false (nat_lt 0 (get_or sums v 0)))
  some-added_rows most v (weight ∷ weights) sums can =
      let shares = (row_at table weight.0).shares in
      some-added_rows most v weights (added_shares weight.1 shares sums) (can-more most weight weights sums can)
      ∙ ap (λ b. b || list_any (λ w. is_among (support_of (row_at table w.0).shares) v) weights)
      (some-added_shares weight.1 v shares sums can.each.0 (row-inside weight.0 sums can.inside.0 can.places) (recursion_from_All (λ (share : Share). 0 < share.1) shares (row-is weight.0 can.inside.0).each))
      ∙ or_assoc (nat_lt 0 (get_or sums v 0)) (is_among (support_of shares) v) (list_any (λ w. is_among (support_of (row_at table w.0).shares) v) weights)

  -- The sums times control numbers, after the rows were added.
  pub dense-added_rows : (most : ℕ) (numbers : List ℤ) (weights : List Share) (sums : List ℕ) → CanAddRows most table weights sums
      → dense_sum numbers (added_rows table weights sums) ≡ dense_sum numbers sums +ℤ share_sum (row_numbers table numbers) weights
  dense-added_rows most numbers [] sums can = sym (+ℤ_idr (dense_sum numbers sums))
  dense-added_rows most numbers (weight ∷ weights) sums can =
      let shares = (row_at table weight.0).shares in
      let rest = share_sum (row_numbers table numbers) weights in
      dense-added_rows most numbers weights (added_shares weight.1 shares sums) (can-more most weight weights sums can)
      ∙ ap (λ z. z +ℤ rest) (dense_sum-added_shares numbers weight.1 shares sums (row-inside weight.0 sums can.inside.0 can.places))
      ∙ +ℤ_assoc (dense_sum numbers sums) (pos weight.1 *ℤ share_sum numbers shares) rest
      ∙ ap (λ z. dense_sum numbers sums +ℤ (pos weight.1 *ℤ z +ℤ rest)) (sym (number-at table numbers weight.0))

  -- One round of the loop over the weights. The body reads the point and the factor from two lists.
  module _ {T : Type 0} (value : T → ℕ) (most : ℕ) (weights : List Share) (points : List ℕ) (factors : List T)
      (points_are : points ≡ map (λ share. share.0) weights) (factors_are : map value factors ≡ map (λ share. share.1) weights)
      (i : ℕ) (sums : List ℕ) (inside : i < length points) (factor : T) (read : factor ≡ get_or factors i factor) (can : CanAddRows most table (drop i weights) sums) where
    abbrev weight : Share
    weight = get_or weights i (0, 0)

    abbrev point : ℕ
    point = get_or points i 0

    below : i < length weights
    below = omega (arith, inside, ap length points_are, length-map weights (λ (share : Share). share.0))

    point-is : point ≡ weight.0
    point-is = ap (λ ps. get_or ps i 0) points_are ∙ list.get_or-map (λ (share : Share). share.0) weights i (0, 0) 0 below

    factor-is : value factor ≡ weight.1
    factor-is =
        number-there value factors i factor (omega (arith, below, length-map factors value, ap length factors_are, length-map weights (λ (share : Share). share.1))) read
        ∙ ap (λ ns. get_or ns i 0) factors_are ∙ list.get_or-map (λ (share : Share). share.1) weights i (0, 0) 0 below

    here : CanAddRows most table (weight ∷ drop (i + 1) weights) sums
    here = subst (λ ws. CanAddRows most table ws sums) (drop_more weights i (0, 0) below) can

    pub round-known : point < length table.rows
    round-known = rw point-is here.inside.0

    pub round-some : 0 < value factor
    round-some = rw factor-is here.each.0

    pub round-fits : sum_of sums + value factor * total_of (row_at table point).shares ≤ most
    round-fits =
        let all = sum_by-cons (λ (w : Share). w.1 * total_of (row_at table w.0).shares) weight (drop (i + 1) weights) in
        rw (point-is, factor-is) (omega (arith, all, here.fits))

    module _ (after : List ℕ) (added : after ≡ added_shares (value factor) (row_at table point).shares sums) where
      is-added : after ≡ added_shares weight.1 (row_at table weight.0).shares sums
      is-added = added ∙ ap (λ n. added_shares n (row_at table point).shares sums) factor-is ∙ ap (λ u. added_shares weight.1 (row_at table u).shares sums) point-is

      pub round-all : (whole : List ℕ) → added_rows table (drop i weights) sums ≡ whole → added_rows table (drop (i + 1) weights) after ≡ whole
      round-all whole all =
          ap (added_rows table (drop (i + 1) weights)) is-added ∙ sym (ap (λ ws. added_rows table ws sums) (drop_more weights i (0, 0) below)) ∙ all

      pub round-can : CanAddRows most table (drop (i + 1) weights) after
      round-can = subst (CanAddRows most table (drop (i + 1) weights)) (sym is-added) (can-more most weight (drop (i + 1) weights) sums here)

-- The body reads a row as two lists and adds it to the sums.
module _ (table : Table) (is : IsTable table) (point : ℕ) (known : point < length table.rows) (indices numerators : List ℕ)
    (indices_are : indices ≡ map (λ share. share.0) (row_at table point).shares) (numerators_are : numerators ≡ map (λ share. share.1) (row_at table point).shares) where
  pub read-inside : (places : ℕ) → places ≡ table.controls → All (λ index. index < places) indices
  read-inside places same =
      subst (All (λ index. index < places)) (sym indices_are)
      (All-map (λ index. index < places) (λ (share : Share). share.0) (row_at table point).shares
      (subst (λ n. All (λ (share : Share). share.0 < n) (row_at table point).shares) (sym same) (row-is table is point known).inside))

  pub read-some : All (λ numerator. 0 < numerator) numerators
  read-some =
      subst (All (λ numerator. 0 < numerator)) (sym numerators_are)
      (All-map (λ numerator. 0 < numerator) (λ (share : Share). share.1) (row_at table point).shares (row-is table is point known).each)

  read-shares : zip indices (map (λ n. n) numerators) ≡ (row_at table point).shares
  read-shares =
      ap (zip indices) (map-id numerators) ∙ zip-parts (row_at table point).shares indices numerators indices_are numerators_are

  module _ (factor : ℕ) (sums : List ℕ) where
    pub read-fits : (most : ℕ) → sum_of sums + factor * total_of (row_at table point).shares ≤ most → sum_of sums + factor * total_of (zip indices (map (λ n. n) numerators)) ≤ most
    read-fits most fits = subst (λ shares. sum_of sums + factor * total_of shares ≤ most) (sym read-shares) fits

    pub read-added : (new : List ℕ) → new ≡ added_shares factor (zip indices (map (λ n. n) numerators)) sums → new ≡ added_shares factor (row_at table point).shares sums
    read-added new added = added ∙ ap (λ shares. added_shares factor shares sums) read-shares
