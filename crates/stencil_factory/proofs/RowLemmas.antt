-- The row of a mask, from the weights of the level's points in it.
use Rattle.std.proofs.Common.{◌≡◌, ℕ, zero, suc, ◌+◌, ◌*◌, ◌<◌, ◌≤◌, ◌||◌, nat_lt, ℤ, ◌+ℤ◌, List, [], ◌∷◌, length, map, get_or, replicate, arith, refl, ap, sym, ◌∙◌, subst}
use Rattle.std.specs.List.{All, AllByRecursion, filter, list_any, range_with_len, sum_by}
use Rattle.std.proofs.Math.IntN.{+ℤ_idl}
use Rattle.std.proofs.lemmas.List.{length-map, length-replicate}
use Rattle.std.proofs.lemmas.List.Elements.{recursion_from_All, All-from_recursion}
use Rattle.std.proofs.lemmas.List.Sums.{sum_by-cons}
use Rattle.subdiv_model.specs.Polygons.{is_among}
use Rattle.subdiv_model.specs.Level.{Level}
use Rattle.subdiv_model.specs.Value.{Value}
use Rattle.subdiv_model.specs.Mask.{Term, Mask}
use Rattle.subdiv_model.specs.Refined.{mask_value, source_value, mask_denominator, source_denominator}
use Rattle.subdiv_model.specs.Support.{mask_support, source_support}
use Rattle.subdiv_model.specs.Channel.{number_bound}
use Rattle.mask_laws.proofs.SumLemmas.{IsOver}
use Rattle.stencil_apply.specs.Table.{Share, Row, Table, IsTable, row_at, total_of}
use Rattle.stencil_factory.specs.Rows.{support_of, supports_of, share_sum, dens_of, row_values, values_over, AreSameValues}
use Rattle.place_sums.specs.Sums.{shares_from}
use Rattle.stencil_factory.specs.Weights.{AreWeights}
use Rattle.stencil_factory.specs.Composing.{added_rows, rows_total, CanAddRows, IsComposedRow}
use Rattle.place_sums.proofs.SumLemmas.{replicate-sum, shares-ascending, shares-each, shares-inside, shares-total, share_sum-shares_from, dense_sum-zeros}
use Rattle.stencil_factory.proofs.RowSumLemmas.{row_numbers, row-total, sum-added_rows, length-added_rows, some-added_rows, dense-added_rows}
use Rattle.stencil_factory.proofs.SupportLemmas.{sources-have, shares-kept}

-- The values of the rows are their numbers over their denominators.
values-over : (table : Table) (numbers : List ℤ) → values_over (dens_of table) (row_numbers table numbers) ≡ row_values table numbers
values-over table numbers = each table.rows
  where
    each : (rows : List Row) → values_over (map (λ row. row.den) rows) (map (λ row. share_sum numbers row.shares) rows) ≡ map (λ row. record { num = share_sum numbers row.shares; den = row.den }) rows
    each [] = refl
    each (row ∷ rows) = ap (λ (rest : List Value). record { num = share_sum numbers row.shares; den = row.den } ∷ rest) (each rows)

-- Each place of a list of zeros has 0.
pub zero-at : (n v : ℕ) → ◌≡◌ {A = ℕ} (get_or (replicate n 0) v 0) 0
zero-at zero v = refl
zero-at (suc n) zero = refl
zero-at (suc n) (suc v) = zero-at n v

module _ (level : Level) (table : Table) (mask : Mask) (weights : List Share) (is : IsTable table) (each : length table.rows ≡ level.point_count)
    (are : AreWeights level (dens_of table) mask weights) (short : mask_denominator (source_denominator level (dens_of table)) mask ≤ number_bound) where
  abbrev den : ℕ
  den = mask_denominator (source_denominator level (dens_of table)) mask

  abbrev zeros : List ℕ
  zeros = replicate table.controls 0

  pub weights-inside : AllByRecursion (λ weight. weight.0 < length table.rows) weights
  weights-inside =
      recursion_from_All (λ (weight : Share). weight.0 < length table.rows) weights
      (subst (λ n. All (λ (weight : Share). weight.0 < n) weights) (sym each) are.inside)

  -- each row's total is its denominator
  total-same : (ws : List Share) → AllByRecursion (λ weight. weight.0 < length table.rows) ws → rows_total table ws ≡ sum_by (λ share. share.1 * get_or (dens_of table) share.0 1) ws
  total-same [] h = refl
  total-same (w ∷ ws) h =
      sum_by-cons (λ (weight : Share). weight.1 * total_of (row_at table weight.0).shares) w ws
      ∙ ap (λ n. w.1 * n + rows_total table ws) (row-total table is w.0 h.0)
      ∙ ap (λ n. w.1 * get_or (dens_of table) w.0 1 + n) (total-same ws h.1)
      ∙ sym (sum_by-cons (λ (share : Share). share.1 * get_or (dens_of table) share.0 1) w ws)

  total : rows_total table weights ≡ den
  total = total-same weights weights-inside ∙ are.total

  pub can-add : (most : ℕ) → den ≤ most → CanAddRows most table weights zeros
  can-add most within = record {
    places = length-replicate table.controls 0;
    inside = weights-inside;
    each = recursion_from_All (λ (weight : Share). 0 < weight.1) weights are.each;
    fits = omega (arith, replicate-sum table.controls, total, within);
  }

  abbrev sums : List ℕ
  sums = added_rows table weights zeros

  abbrev own_support : List ℕ
  own_support = mask_support table.controls (source_support table.controls level (supports_of table)) mask

  count : length sums ≡ table.controls
  count = length-added_rows table weights zeros ∙ length-replicate table.controls 0

  -- a control has a share where it is in the support
  support : support_of (shares_from 0 sums) ≡ own_support
  support =
      let lists = map (λ (t : Term). source_support table.controls level (supports_of table) t.source) mask.terms in
      shares-kept (λ control. list_any (λ list. is_among list control) lists) 0 sums
      (λ k inside.
      let below : k < table.controls = omega (arith, count, inside) in
      let from : 0 + k ≡ k = omega arith in
      ap (λ v. list_any (λ list. is_among list v) lists) from
      ∙ sources-have level table mask table.controls k below weights are.named
      ∙ sym (some-added_rows table is number_bound k weights zeros (can-add number_bound short) ∙ ap (λ n. nat_lt 0 n || list_any (λ w. is_among (support_of (row_at table w.0).shares) k) weights) (zero-at table.controls k)))
      ∙ ap (λ n. filter (λ control. list_any (λ list. is_among list control) lists) (range_with_len 0 n)) count

  value : (numbers : List ℤ) (values : List Value) → AreSameValues values (row_values table numbers) → IsOver den (mask_value (source_value level values) mask) (share_sum numbers (shares_from 0 sums))
  value numbers values same =
      let rows = row_numbers table numbers in
      let long : length rows ≡ length (dens_of table) = length-map table.rows (λ (row : Row). share_sum numbers row.shares) ∙ sym (length-map table.rows (λ (row : Row). row.den)) in
      let over = are.value rows values long (subst (AreSameValues values) (sym (values-over table numbers)) same) in
      let made : share_sum numbers (shares_from 0 sums) ≡ share_sum rows weights =
      share_sum-shares_from 0 numbers sums ∙ dense-added_rows table is number_bound numbers weights zeros (can-add number_bound short)
      ∙ ap (λ z. z +ℤ share_sum rows weights) (dense_sum-zeros numbers table.controls) ∙ +ℤ_idl (share_sum rows weights) in
      subst (IsOver den (mask_value (source_value level values) mask)) (sym made) over

  inside : All (λ share. share.0 < table.controls) (shares_from 0 sums)
  inside = All-from_recursion (λ (share : Share). share.0 < table.controls) (shares_from 0 sums) (lower (shares_from 0 sums) (shares-inside 0 sums))
    where
      lower : (shares : List Share) → AllByRecursion (λ share. (0 ≤ share.0) × (share.0 < 0 + length sums)) shares → AllByRecursion (λ share. share.0 < table.controls) shares
      lower [] h = tt
      lower (share ∷ shares) h = (omega (arith, h.0.1, count), lower shares h.1)

  -- the sums that are not 0 are the row
  pub composed : (shares : List Share) (row_den : ℕ) → shares ≡ shares_from 0 sums → row_den ≡ den → 0 < den → IsComposedRow level table mask (record { den = row_den; shares = shares })
  composed shares row_den e d positive =
      subst (λ (xs : List Share). IsComposedRow level table mask (record { den = row_den; shares = xs })) (sym e)
      (subst (λ (n : ℕ). IsComposedRow level table mask (record { den = n; shares = shares_from 0 sums })) (sym d) (
      record {
        is = record {
          positive = positive;
          short = short;
          ascending = shares-ascending 0 sums;
          inside = inside;
          each = All-from_recursion (λ (share : Share). 0 < share.1) (shares_from 0 sums) (shares-each 0 sums);
          whole = omega (arith, shares-total 0 sums, sum-added_rows table is number_bound weights zeros (can-add number_bound short), replicate-sum table.controls, total);
        };
        den = refl;
        support = support;
        value = value;
      }
      ))
