-- The denominators of rows, found one after another.
use Rattle.std.proofs.Common.{◌≡◌, ℕ, ◌+◌, ◌<◌, ◌≤◌, zero, suc, Bool, true, false, nat_lt, List, [], ◌∷◌, ◌++◌, length, map, get_or, take, arith, lit<, refl, ap, sym, ◌∙◌, subst}
use Rattle.std.specs.List.{All, fold, take-map}
use Rattle.std.proofs.lemmas.Bool.Decides.{nat_tests}
use Rattle.std.proofs.lemmas.List.{length-map, get_or-map, get_or-take, get_or_default, length-take-le, map-append, take_more, take_all}
use Rattle.std.proofs.lemmas.List.Sums.{fold-append}
use Rattle.std.proofs.lemmas.List.Elements.{filter-append, recursion_from_All, All-from_recursion}
use Rattle.subdiv_model.specs.Level.{Level}
use Rattle.subdiv_model.specs.Mask.{Mask}
use Rattle.subdiv_model.specs.Multiples.{lcm_of, lcm_of_all}
use Rattle.subdiv_model.specs.Refined.{mask_denominator, source_denominator}
use Rattle.subdiv_model.specs.Channel.{number_bound}
use Rattle.number_laws.proofs.MultipleLemmas.{lcm_of_all-positive, fold-lcm-positive}
use Rattle.child_masks.specs.Masks.{IsFirstDenominator}
use Rattle.child_masks.specs.Survey.{within_bound}
use Rattle.child_masks.proofs.DenLemmas.{dens-positive}
use Rattle.child_masks.proofs.FoldLemmas.{ArePositive, joined-all}
use Rattle.child_masks.proofs.WithinLemmas.{within-kept, within-some, within-zero}
use Rattle.stencil_apply.specs.Table.{Share, Table}
use Rattle.stencil_factory.specs.Rows.{support_of, dens_of}
use Rattle.stencil_factory.specs.MaskRows.{no_mask, mask_at, mask_dens, AreRowDenominators}
use Rattle.stencil_factory.specs.Joined.{weighing}
use Rattle.stencil_factory.proofs.WeighingLemmas.{weighing-some, weighing-none}
use Rattle.stencil_factory.proofs.WeightLemmas.{all-join}

-- The denominators of points.
module _ (dens : List ℕ) (positive : All (λ den. 0 < den) dens) where
  abbrev read : List ℕ → List ℕ
  read points = map (λ v. get_or dens v 1) points

  read-positive : (points : List ℕ) → ArePositive (read points)
  read-positive [] = tt
  read-positive (v ∷ points) = (dens-positive dens positive v, read-positive points)

  -- The denominators of the points with a weight above 0.
  abbrev kept : List Share → List ℕ
  kept weights = read (support_of (weighing weights))

  kept-more : (weights : List Share) (i : ℕ) → i < length weights → kept (take (i + 1) weights) ≡ kept (take i weights) ++ kept (get_or weights i (0, 0) ∷ [])
  kept-more weights i below =
      ap kept (take_more weights i (0, 0) below)
      ∙ ap (λ l. read (support_of l)) (filter-append (λ (share : Share). nat_lt 0 share.1) (take i weights) (get_or weights i (0, 0) ∷ []))
      ∙ ap read (map-append (λ (share : Share). share.0) (weighing (take i weights)) (weighing (get_or weights i (0, 0) ∷ [])))
      ∙ map-append (λ v. get_or dens v 1) (support_of (weighing (take i weights))) (support_of (weighing (get_or weights i (0, 0) ∷ [])))

  zero-weight : (n : ℕ) → false ≡ nat_lt 0 n → n ≡ 0
  zero-weight n k = grind (arith, nat_tests, k)

  some-weight : (n : ℕ) → true ≡ nat_lt 0 n → 0 < n
  some-weight n k = grind (arith, nat_tests, k)

  -- a weight after those before it
  one-more : (own : Share) (before : List ℕ) → ArePositive before → (own.0 < length dens) → All (λ den. den ≤ number_bound) dens → (m r : ℕ) → m ≡ within_bound (fold lcm_of 1 before)
      → (own.1 ≡ 0 → r ≡ m)
      → (0 < own.1 → (a b : ℕ) → 0 < a → 0 < b → m ≡ within_bound a → get_or dens own.0 0 ≡ within_bound b → r ≡ within_bound (lcm_of a b))
      → (b : Bool) → b ≡ nat_lt 0 own.1 → r ≡ within_bound (fold lcm_of (fold lcm_of 1 before) (kept (own ∷ [])))
  one-more own before above there short m r h none some false k =
      none (zero-weight own.1 k) ∙ h ∙ ap within_bound (sym (ap (λ l. fold lcm_of (fold lcm_of 1 before) (read (support_of l))) (weighing-none own [] (sym k))))
  one-more own before above there short m r h none some true k =
      let same : get_or dens own.0 0 ≡ get_or dens own.0 1 = get_or_default dens own.0 0 1 there in
      some (some-weight own.1 k) (fold lcm_of 1 before) (get_or dens own.0 1) (fold-lcm-positive 1 before (lit< tt) above) (dens-positive dens positive own.0) h
      (same ∙ sym (within-kept (get_or dens own.0 1) (short own.0 1 there)))
      ∙ ap within_bound (sym (ap (λ l. fold lcm_of (fold lcm_of 1 before) (read (support_of l))) (weighing-some own [] (sym k))))

  -- the least common multiple with a weight more
  pub weights-more : (weights : List Share) → All (λ share. share.0 < length dens) weights → All (λ den. den ≤ number_bound) dens → (i m r : ℕ) → i < length weights
      → m ≡ within_bound (fold lcm_of 1 (kept (take i weights)))
      → ((get_or weights i (0, 0)).1 ≡ 0 → r ≡ m)
      → (0 < (get_or weights i (0, 0)).1 → (a b : ℕ) → 0 < a → 0 < b → m ≡ within_bound a → get_or dens (get_or weights i (0, 0)).0 0 ≡ within_bound b → r ≡ within_bound (lcm_of a b))
      → r ≡ within_bound (fold lcm_of 1 (kept (take (i + 1) weights)))
  weights-more weights inside short i m r below h none some =
      one-more (get_or weights i (0, 0)) (kept (take i weights)) (read-positive (support_of (weighing (take i weights)))) (inside i (0, 0) below) short m r h none some
      (nat_lt 0 (get_or weights i (0, 0)).1) refl
      ∙ ap within_bound (sym (ap (fold lcm_of 1) (kept-more weights i below) ∙ fold-append lcm_of 1 (kept (take i weights)) (kept (get_or weights i (0, 0) ∷ []))))

  -- The least common multiple after all weights.
  pub weights-all : (weights : List Share) (i m : ℕ) → length weights ≤ i → m ≡ within_bound (fold lcm_of 1 (kept (take i weights))) → m ≡ within_bound (lcm_of_all (kept weights))
  weights-all weights i m past h =
      joined-all (kept weights) (length (kept weights)) m (read-positive (support_of (weighing weights))) (omega arith)
      (h ∙ ap (λ l. within_bound (fold lcm_of 1 (kept l))) (take_all i weights past) ∙ ap (λ l. within_bound (fold lcm_of 1 l)) (sym (take_all (length (kept weights)) (kept weights) (omega arith))))

  pub common-positive : (points : List ℕ) → 0 < lcm_of_all (read points)
  common-positive points = lcm_of_all-positive (read points) (read-positive points)

-- A number that `within_bound` returns is at most the bound.
within-short : (a : ℕ) → within_bound a ≤ number_bound
within-short a = grind (arith, nat_tests)

module _ (level : Level) (table : Table) (masks : List Mask) where
  abbrev own : Mask → ℕ
  own = mask_denominator (source_denominator level (dens_of table))

  module _ (row : ℕ) (below : row < length masks) (found : List ℕ) (are : AreRowDenominators level table (take row masks) found)
      (den : ℕ) (some : 0 < own (mask_at masks row)) (den_is : den ≡ within_bound (own (mask_at masks row))) where
    -- The denominators of one further row.
    pub rows-next : (den ≡ 0 → ⊥) → (new : List ℕ) → new ≡ found ++ den ∷ [] → AreRowDenominators level table (take (row + 1) masks) new
    rows-next other new added =
        let positive : 0 < den = above den other in
        let exact = within-some den (own (mask_at masks row)) positive den_is in
        subst (AreRowDenominators level table (take (row + 1) masks)) (sym added) (record {
          each =
              ap (λ l. l ++ den ∷ []) are.each ∙ ap (λ n. map own (take row masks) ++ n ∷ []) exact
              ∙ sym (ap (map own) (take_more masks row no_mask below) ∙ map-append own (take row masks) (mask_at masks row ∷ []));
          positive = All-from_recursion (λ n. 0 < n) (found ++ den ∷ []) (all-join (λ n. 0 < n) found (den ∷ []) (recursion_from_All (λ n. 0 < n) found are.positive) (positive, tt));
          short =
              All-from_recursion (λ n. n ≤ number_bound) (found ++ den ∷ [])
              (all-join (λ n. n ≤ number_bound) found (den ∷ []) (recursion_from_All (λ n. n ≤ number_bound) found are.short)
              (subst (λ n. n ≤ number_bound) (sym den_is) (within-short (own (mask_at masks row))), tt));
        })
      where
        above : (n : ℕ) → (n ≡ 0 → ⊥) → 0 < n
        above zero h = absurd (h refl)
        above (suc n) h = omega arith

    -- The first row whose denominator is above the bound.
    pub rows-fault : den ≡ 0 → IsFirstDenominator (mask_dens level table masks) row
    rows-fault none = record {
      exists = subst (λ n. row < n) (sym (length-map masks own)) below;
      great = subst (λ n. number_bound < n) (sym (get_or-map own masks row no_mask 1 below)) (within-zero (own (mask_at masks row)) some (sym none ∙ den_is));
      first = λ q before.
          let here : get_or found q 1 ≡ get_or (map own masks) q 1 =
          ap (λ l. get_or l q 1) are.each ∙ ap (λ l. get_or l q 1) (sym (take-map own row masks)) ∙ get_or-take row (map own masks) q 1 before in
          let there : q < length found = long q before in
          subst (λ n. n ≤ number_bound) here (are.short q 1 there);
    }
      where
        long : (q : ℕ) → q < row → q < length found
        long q before =
            omega (arith, before, below, ap length are.each, length-map (take row masks) own, length-take-le row masks (omega (arith, below)))
