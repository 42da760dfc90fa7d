-- The terms of a mask, joined by their sources, sum as the terms that they were made of, and have their value.
use Rattle.std.proofs.Common.{◌≡◌, ℕ, suc, ◌*◌, ◌/◌, ◌<◌, Bool, not, nat_lt, ℤ, pos, negsuc, ◌+ℤ◌, ◌*ℤ◌, List, [], ◌∷◌, ◌++◌, map, arith, refl, ap, sym, ◌∙◌}
use Rattle.std.specs.List.{AllByRecursion, filter, sum_by}
use Rattle.std.specs.Int.{◌∣◌}
use Rattle.std.proofs.lemmas.Bool.{cond_both}
use Rattle.std.proofs.lemmas.Int.{ints}
use Rattle.std.proofs.lemmas.List.Sums.{sum_by-cons}
use Rattle.std.proofs.Math.IntN.{*ℤ_comm, pos-*ℤ-pos, pos-*ℤ-negsuc}
use Rattle.subdiv_model.specs.Multiples.{lcm_of_all}
use Rattle.subdiv_model.specs.Mask.{SourcePoint, Term, Mask, weigh, same_source, weight_in, each_once, joined_terms, mask_of, total_weight}
use Rattle.subdiv_model.specs.Value.{Value, IsSameValue}
use Rattle.number_laws.proofs.WholeNumberLemmas.{pos-swap, pos-cancel}
use Rattle.number_laws.proofs.MultipleLemmas.{all-divide_lcm, lcm_of_all-positive, product-positive}
use Rattle.sharpness_laws.specs.SameWeights.{HaveSameWeights}
use Rattle.sharpness_laws.proofs.JoinedWeightLemmas.{weight_in-mask_of}
use Rattle.sharpness_laws.proofs.SameWeightLemmas.{same-sum, same-total}
use Rattle.mask_laws.specs.Laws.{value_of_terms}
use Rattle.mask_laws.proofs.SumLemmas.{weighted_sum, IsOver, over-multiple, terms-over}

-- A property of each source of the terms is one of each source of the mask.

kept-all : {X : Type 0} (keep : X → Bool) (P : X → Type 0) (xs : List X) → AllByRecursion P xs → AllByRecursion P (filter keep xs)
kept-all keep P [] h = tt
kept-all keep P (x ∷ xs) h =
    cond_both (keep x) (x ∷ filter keep xs) (filter keep xs) (AllByRecursion P) (λ _.
    (h.0, kept-all keep P xs h.1)) (λ _. kept-all keep P xs h.1)

module _ (P : SourcePoint → Type 0) where
  once-all : (sources : List SourcePoint) → AllByRecursion P sources → AllByRecursion P (each_once sources)
  once-all [] h = tt
  once-all (s ∷ sources) h = (h.0, kept-all (λ other. not (same_source s other)) P (each_once sources) (once-all sources h.1))

  sources-all : (terms : List Term) → AllByRecursion (λ t. P t.source) terms → AllByRecursion P (map (λ t. t.source) terms)
  sources-all [] h = tt
  sources-all (t ∷ terms) h = (h.0, sources-all terms h.1)

  weighed-all : (f : SourcePoint → ℕ) (sources : List SourcePoint) → AllByRecursion P sources
      → AllByRecursion (λ t. P t.source) (map (λ s. weigh (f s) s) sources)
  weighed-all f [] h = tt
  weighed-all f (s ∷ sources) h = (h.0, weighed-all f sources h.1)

  pub joined-all : (terms : List Term) (q : ℕ) → AllByRecursion (λ t. P t.source) terms
      → AllByRecursion (λ t. P t.source) (mask_of terms q).terms
  joined-all terms q h =
      let sources = map (λ t. t.source) terms in
      kept-all (λ t. nat_lt 0 t.weight) (λ t. P t.source) (joined_terms terms)
      (weighed-all (weight_in terms) (each_once sources) (once-all sources (sources-all terms h)))

-- Sums.

-- terms that are not joined, over some denominator
abbrev unjoined : List Term → Mask
unjoined terms = record { terms = terms; denominator = 1 }

-- the amount above 0, and the amount below 0
abbrev above : ℤ → ℕ
above (pos n) = n
above (negsuc n) = 0

abbrev below : ℤ → ℕ
below (pos n) = 0
below (negsuc n) = suc n

weighted-parts : (w : ℕ) (k : ℤ) → pos w *ℤ k +ℤ pos (w * below k) ≡ pos (w * above k)
weighted-parts w (pos n) = omega (arith, ints, pos-*ℤ-pos w n)
weighted-parts w (negsuc n) = omega (arith, ints, pos-*ℤ-negsuc w n)

module _ (f : SourcePoint → ℤ) where
  abbrev up : List Term → ℕ
  up terms = sum_by (λ t. t.weight * above (f t.source)) terms

  abbrev down : List Term → ℕ
  down terms = sum_by (λ t. t.weight * below (f t.source)) terms

  sum-parts : (terms : List Term) → weighted_sum f terms +ℤ pos (down terms) ≡ pos (up terms)
  sum-parts [] = refl
  sum-parts (t ∷ terms) =
      omega (
        arith,
        ints,
        weighted-parts t.weight (f t.source),
        sum-parts terms,
        sum_by-cons (λ (u : Term). u.weight * above (f u.source)) t terms,
        sum_by-cons (λ (u : Term). u.weight * below (f u.source)) t terms,
      )

  -- a weighted sum depends only on the weight of each source
  pub order-sum : (first second : List Term) → ((s : SourcePoint) → weight_in first s ≡ weight_in second s)
      → weighted_sum f first ≡ weighted_sum f second
  order-sum first second same =
      let both : HaveSameWeights (unjoined first) (unjoined second) = record { denominator = refl; weights = same } in
      let high : up first ≡ up second = same-sum (λ s. above (f s)) (unjoined first) (unjoined second) both in
      let low : down first ≡ down second = same-sum (λ s. below (f s)) (unjoined first) (unjoined second) both in
      omega (arith, ints, sum-parts first, sum-parts second, high, low)

  -- the weighted sum over joined terms is that over the terms
  pub joined-sum : (terms : List Term) (q : ℕ) → weighted_sum f (mask_of terms q).terms ≡ weighted_sum f terms
  joined-sum terms q = order-sum (mask_of terms q).terms terms (weight_in-mask_of terms q)

-- joining keeps all weights
joined-weights : (terms : List Term) (q : ℕ) → HaveSameWeights (unjoined (mask_of terms q).terms) (unjoined terms)
joined-weights terms q = record { denominator = refl; weights = weight_in-mask_of terms q }

pub joined-number : (f : SourcePoint → ℕ) (terms : List Term) (q : ℕ)
    → sum_by (λ t. t.weight * f t.source) (mask_of terms q).terms ≡ sum_by (λ t. t.weight * f t.source) terms
joined-number f terms q = same-sum f (unjoined (mask_of terms q).terms) (unjoined terms) (joined-weights terms q)

pub joined-total : (terms : List Term) (q : ℕ) → total_weight (mask_of terms q).terms ≡ total_weight terms
joined-total terms q = same-total (unjoined (mask_of terms q).terms) (unjoined terms) (joined-weights terms q)

-- Values.

-- two sums that are one whole number over a denominator above 0 are the same value
same-over : (c : ℕ) (x y : Value) (n : ℤ) → 0 < c → IsOver c x n → IsOver c y n → IsSameValue x y
same-over c x y n positive h k =
    pos-cancel c (x.num *ℤ pos y.den) (y.num *ℤ pos x.den) positive
    (ap (λ z. pos c *ℤ z) (*ℤ_comm x.num (pos y.den))
    ∙ pos-swap c y.den x.num
    ∙ ap (λ z. pos y.den *ℤ z) h
    ∙ pos-swap y.den x.den n
    ∙ ap (λ z. pos x.den *ℤ z) (sym k)
    ∙ pos-swap x.den c y.num
    ∙ ap (λ z. pos c *ℤ z) (*ℤ_comm (pos x.den) y.num))

module _ (value : SourcePoint → Value) (positive : (s : SourcePoint) → 0 < (value s).den) where
  abbrev den : Term → ℕ
  den t = (value t.source).den

  dens-positive : (terms : List Term) → AllByRecursion (λ a. 0 < a) (map den terms)
  dens-positive [] = tt
  dens-positive (t ∷ terms) = (positive t.source, dens-positive terms)

  -- over a multiple of all denominators each value is whole
  abbrev whole : ℕ → SourcePoint → ℤ
  whole m s = pos (m / (value s).den) *ℤ (value s).num

  each-whole : (m : ℕ) (terms : List Term) → AllByRecursion (λ a. a ∣ m) (map den terms)
      → AllByRecursion (λ t. IsOver m (value t.source) (whole m t.source)) terms
  each-whole m [] h = tt
  each-whole m (t ∷ terms) h = (over-multiple (den t) m (value t.source) (value t.source).num h.0 refl, each-whole m terms h.1)

  split-all : (P : ℕ → Type 0) (first second : List Term) → AllByRecursion P (map den (first ++ second))
      → AllByRecursion P (map den first) × AllByRecursion P (map den second)
  split-all P [] second h = (tt, h)
  split-all P (t ∷ first) second h = let rest = split-all P first second h.1 in ((h.0, rest.0), rest.1)

  -- terms whose weighted sums are equal have the same value
  value-from-sums : (first second : List Term) (q : ℕ) → 0 < q → ((f : SourcePoint → ℤ) → weighted_sum f first ≡ weighted_sum f second)
      → IsSameValue (value_of_terms value first q) (value_of_terms value second q)
  value-from-sums first second q some same =
      let dens = map den (first ++ second) in
      let m = lcm_of_all dens in
      let all = split-all (λ a. a ∣ m) first second (all-divide_lcm dens) in
      same-over (q * m) _ _ (weighted_sum (whole m) second)
      (product-positive q m some (lcm_of_all-positive dens (dens-positive (first ++ second))))
      (terms-over q m value (whole m) first (each-whole m first all.0) ∙ ap (λ z. pos (value_of_terms value first q).den *ℤ z) (same (whole m)))
      (terms-over q m value (whole m) second (each-whole m second all.1))

-- the value of a mask is that of the terms that it was made of
pub joined-value : (value : SourcePoint → Value) (terms : List Term) (q : ℕ) → ((s : SourcePoint) → 0 < (value s).den) → 0 < q
    → IsSameValue (value_of_terms value (mask_of terms q).terms q) (value_of_terms value terms q)
joined-value value terms q positive some =
    value-from-sums value positive (mask_of terms q).terms terms q some (λ f. joined-sum f terms q)

-- terms that give each source the same weight have the same value, in any order
pub order-value : (value : SourcePoint → Value) (first second : List Term) (q : ℕ) → ((s : SourcePoint) → 0 < (value s).den) → 0 < q
    → ((s : SourcePoint) → weight_in first s ≡ weight_in second s)
    → IsSameValue (value_of_terms value first q) (value_of_terms value second q)
order-value value first second q positive some same =
    value-from-sums value positive first second q some (λ f. order-sum f first second same)
