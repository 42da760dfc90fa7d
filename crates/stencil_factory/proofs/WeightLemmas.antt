-- The amounts of all terms of a mask, added to zeros, are the weights of the mask.
use Rattle.std.proofs.Common.{◌≡◌, ℕ, zero, suc, ◌+◌, ◌*◌, ◌<◌, ◌≤◌, nat_eq, nat_lt, true, false, ◌||◌, IsTrue, ℤ, pos, ◌+ℤ◌, ◌*ℤ◌, List, [], ◌∷◌, ◌++◌, length, map, get_or, replicate, arith, refl, ap, sym, ◌∙◌, subst}
use Rattle.std.specs.List.{All, AllByRecursion, list_any, list_all}
use Rattle.std.specs.Int.{◌∣◌}
use Rattle.std.proofs.lemmas.Bool.{and_parts, ltb-true}
use Rattle.std.proofs.lemmas.List.{get_or-map, length-replicate, map-append}
use Rattle.std.proofs.lemmas.List.Elements.{All-from_recursion}
use Rattle.std.proofs.lemmas.List.Folds.{list_any-append}
use Rattle.std.proofs.lemmas.List.Sums.{sum_by-cons, sum_by-append}
use Rattle.std.proofs.Math.IntN.{*ℤ_comm, +ℤ_idl, +ℤ_assoc, pos-*ℤ-pos, pos-+ℤ-pos}
use Rattle.subdiv_model.specs.Polygons.{is_among}
use Rattle.subdiv_model.specs.Level.{Level}
use Rattle.subdiv_model.specs.Multiples.{lcm_of_all}
use Rattle.subdiv_model.specs.Value.{Value, IsSameValue}
use Rattle.subdiv_model.specs.Mask.{SourcePoint, Term, Mask, total_weight, is_mean}
use Rattle.subdiv_model.specs.Refined.{point_value, source_value, mask_denominator, source_denominator}
use Rattle.subdiv_model.specs.Channel.{number_bound}
use Rattle.number_laws.proofs.MultipleLemmas.{lcm_of_all-positive, all-divide_lcm}
use Rattle.number_laws.proofs.WholeNumberLemmas.{times-one}
use Rattle.mask_laws.proofs.SumLemmas.{weighted_sum, IsOver, terms-over}
use Rattle.child_masks.specs.Found.{ArePointDenominators}
use Rattle.child_masks.proofs.MeanLemmas.{mean-positive, mean-total}
use Rattle.stencil_apply.specs.Table.{Share, total_of}
use Rattle.stencil_factory.specs.Rows.{support_of, share_sum, values_over, AreSameValues}
use Rattle.place_sums.specs.Sums.{added_shares, AreSharesOf}
use Rattle.stencil_factory.specs.Weights.{names_point, AreWeights}
use Rattle.stencil_factory.specs.Flat.{term_shares, flat_shares, CanAddAll, CanWeighTerm, IsWeighed}
use Rattle.place_sums.proofs.SumLemmas.{length-added_shares, place-le-sum, some-added_shares, replicate-sum, dense_sum-added_shares, dense_sum-zeros}
use Rattle.stencil_factory.proofs.FlatLemmas.{weigh_by, source_number, IsPart, source-inside, source-each, source-weight, source-value, source-over, source-named, source-can}

-- what holds of two lists holds of both together
pub all-join : {X : Type 0} (P : X → Type 0) (xs ys : List X) → AllByRecursion P xs → AllByRecursion P ys → AllByRecursion P (xs ++ ys)
all-join P [] ys h k = k
all-join P (x ∷ xs) ys h k = (h.0, all-join P xs ys h.1 k)

-- shares times numbers, of two lists together
share_sum-append : (numbers : List ℤ) (xs ys : List Share) → share_sum numbers (xs ++ ys) ≡ share_sum numbers xs +ℤ share_sum numbers ys
share_sum-append numbers [] ys = sym (+ℤ_idl (share_sum numbers ys))
share_sum-append numbers (x ∷ xs) ys =
    let own = pos x.1 *ℤ get_or numbers x.0 (pos 0) in
    ap (λ z. own +ℤ z) (share_sum-append numbers xs ys) ∙ sym (+ℤ_assoc own (share_sum numbers xs) (share_sum numbers ys))

module _ (level : Level) (dens faces : List ℕ) (m : ℕ) (above : 0 < m) where
  abbrev flat : List Term → List Share
  flat terms = flat_shares level dens faces m terms

  abbrev AreParts : List Term → Type 0
  AreParts terms = AllByRecursion (λ t. IsPart level dens faces m t.source) terms

  flat-inside : (terms : List Term) → AreParts terms → AllByRecursion (λ share. share.0 < length dens) (flat terms)
  flat-inside [] h = tt
  flat-inside (t ∷ terms) h =
      all-join (λ share. share.0 < length dens) (term_shares level dens faces m t) (flat terms)
      (source-inside level dens faces m above t.weight t.source h.0) (flat-inside terms h.1)

  flat-each : (terms : List Term) → AllByRecursion (λ t. 0 < t.weight) terms → AreParts terms → AllByRecursion (λ share. 0 < share.1) (flat terms)
  flat-each [] some h = tt
  flat-each (t ∷ terms) some h =
      all-join (λ share. 0 < share.1) (term_shares level dens faces m t) (flat terms)
      (source-each level dens faces m above t.weight t.source some.0 h.0) (flat-each terms some.1 h.1)

  flat-weight : (terms : List Term) → AreParts terms → weigh_by dens (flat terms) ≡ total_weight terms * m
  flat-weight [] h = omega arith
  flat-weight (t ∷ terms) h =
      sum_by-append (λ (share : Share). share.1 * get_or dens share.0 1) (term_shares level dens faces m t) (flat terms)
      ∙ joined (weigh_by dens (term_shares level dens faces m t)) (weigh_by dens (flat terms)) t.weight (total_weight terms) m
      (source-weight level dens faces m above t.weight t.source h.0) (flat-weight terms h.1)
      ∙ ap (λ n. n * m) (sym (sum_by-cons (λ (s : Term). s.weight) t terms))
    where
      joined : (a r w n m : ℕ) → a ≡ w * m → r ≡ n * m → a + r ≡ (w + n) * m
      joined a r w n m e h = omega (arith, e, h)

  flat-value : (numbers : List ℤ) (terms : List Term) → share_sum numbers (flat terms) ≡ weighted_sum (source_number level dens faces numbers m) terms
  flat-value numbers [] = refl
  flat-value numbers (t ∷ terms) =
      share_sum-append numbers (term_shares level dens faces m t) (flat terms)
      ∙ ap (λ z. z +ℤ share_sum numbers (flat terms)) (source-value level dens faces m above numbers t.weight t.source)
      ∙ ap (λ z. pos t.weight *ℤ source_number level dens faces numbers m t.source +ℤ z) (flat-value numbers terms)

  flat-named : (v : ℕ) (terms : List Term) → is_among (support_of (flat terms)) v ≡ list_any (λ t. names_point level v t.source) terms
  flat-named v [] = refl
  flat-named v (t ∷ terms) =
      ap (λ l. is_among l v) (map-append (λ (share : Share). share.0) (term_shares level dens faces m t) (flat terms))
      ∙ list_any-append (nat_eq v) (support_of (term_shares level dens faces m t)) (support_of (flat terms))
      ∙ ap (λ b. b || is_among (support_of (flat terms)) v) (source-named level dens faces m above v t.weight t.source)
      ∙ ap (λ b. names_point level v t.source || b) (flat-named v terms)

  flat-over : (numbers : List ℤ) (values : List Value) → ((v : ℕ) → v < length dens → IsOver (get_or dens v 1) (point_value values v) (get_or numbers v (pos 0)))
      → (terms : List Term) → AreParts terms → AllByRecursion (λ t. IsOver m (source_value level values t.source) (source_number level dens faces numbers m t.source)) terms
  flat-over numbers values each [] h = tt
  flat-over numbers values each (t ∷ terms) h =
      (source-over level dens faces m above numbers values each t.source h.0, flat-over numbers values each terms h.1)

  flat-can : (terms : List Term) → total_weight terms * m ≤ number_bound → AreParts terms → AllByRecursion (CanWeighTerm level dens faces m) terms
  flat-can [] short h = tt
  flat-can (t ∷ terms) short h =
      let split = sum_by-cons (λ (s : Term). s.weight) t terms in
      let both : (t.weight + total_weight terms) * m ≤ number_bound = subst (λ n. n * m ≤ number_bound) split short in
      (source-can level dens faces m above t.weight t.source (first t.weight (total_weight terms) m both) h.0, flat-can terms (second t.weight (total_weight terms) m both) h.1)
    where
      first : (w n m : ℕ) → (w + n) * m ≤ number_bound → w * m ≤ number_bound
      first w n m h = omega (arith, h)

      second : (w n m : ℕ) → (w + n) * m ≤ number_bound → n * m ≤ number_bound
      second w n m h = omega (arith, h)

-- shares are not more than their amounts times denominators of at least 1
total-below : (dens : List ℕ) → All (λ den. 0 < den) dens → (shares : List Share) → AllByRecursion (λ share. share.0 < length dens) shares
    → total_of shares ≤ weigh_by dens shares
total-below dens positive [] h = omega arith
total-below dens positive (x ∷ shares) h =
    omega (
      arith,
      sum_by-cons (λ (share : Share). share.1) x shares,
      sum_by-cons (λ (share : Share). share.1 * get_or dens share.0 1) x shares,
      grows x.1 (get_or dens x.0 1) (positive x.0 1 h.0),
      total-below dens positive shares h.1,
    )
  where
    grows : (a d : ℕ) → 0 < d → a ≤ a * d
    grows a zero h = absurd (omega (arith, h))
    grows a (suc d) h = omega arith

-- shares times the denominators of their points, as whole numbers
pos-weight : (dens : List ℕ) (shares : List Share) → AllByRecursion (λ share. share.0 < length dens) shares → share_sum (map pos dens) shares ≡ pos (weigh_by dens shares)
pos-weight dens [] h = refl
pos-weight dens (x ∷ shares) h =
    ap (λ z. pos x.1 *ℤ z +ℤ share_sum (map pos dens) shares) (get_or-map pos dens x.0 1 (pos 0) h.0)
    ∙ ap (λ z. z +ℤ share_sum (map pos dens) shares) (pos-*ℤ-pos x.1 (get_or dens x.0 1))
    ∙ ap (λ z. pos (x.1 * get_or dens x.0 1) +ℤ z) (pos-weight dens shares h.1)
    ∙ pos-+ℤ-pos (x.1 * get_or dens x.0 1) (weigh_by dens shares)
    ∙ ap pos (sym (sum_by-cons (λ (share : Share). share.1 * get_or dens share.0 1) x shares))

-- zeros are above 0 nowhere
zero-place : (n v : ℕ) → nat_lt 0 (get_or (replicate n 0) v 0) ≡ false
zero-place n v =
    let none : get_or (replicate n 0) v 0 ≡ 0 = omega (arith, place-le-sum v (replicate n 0), replicate-sum n) in
    ap (nat_lt 0) none

-- shares added to zeros
module _ (n : ℕ) (shares : List Share) (inside : AllByRecursion (λ share. share.0 < n) shares) (each : AllByRecursion (λ share. 0 < share.1) shares) where
  abbrev zeros : List ℕ
  zeros = replicate n 0

  abbrev sums : List ℕ
  sums = added_shares 1 shares zeros

  count : length sums ≡ n
  count = length-added_shares 1 shares zeros ∙ length-replicate n 0

  placed : AllByRecursion (λ share. share.0 < length zeros) shares
  placed = subst (λ k. AllByRecursion (λ share. share.0 < k) shares) (sym (length-replicate n 0)) inside

  -- The shares of the sums, times numbers, equal the added shares times numbers.
  sums-value : (made : List Share) → AreSharesOf sums made → (numbers : List ℤ) → share_sum numbers made ≡ share_sum numbers shares
  sums-value made of numbers =
      of.value numbers
      ∙ dense_sum-added_shares numbers 1 shares zeros placed
      ∙ ap (λ z. z +ℤ pos 1 *ℤ share_sum numbers shares) (dense_sum-zeros numbers n)
      ∙ +ℤ_idl (pos 1 *ℤ share_sum numbers shares)
      ∙ *ℤ_comm (pos 1) (share_sum numbers shares)
      ∙ times-one (share_sum numbers shares)

  -- The shares of the sums have the places of the added shares.
  sums-among : (made : List Share) → AreSharesOf sums made → (v : ℕ) → is_among (support_of made) v ≡ is_among (support_of shares) v
  sums-among made of v =
      of.named v ∙ some-added_shares 1 v shares zeros (omega arith) placed each
      ∙ ap (λ b. b || is_among (support_of shares) v) (zero-place n v)

  -- The added shares are shares of the sums.
  pub sums-themselves : AreSharesOf sums shares
  sums-themselves = record {
    inside = subst (λ k. AllByRecursion (λ share. share.0 < k) shares) (sym count) inside;
    each = each;
    named = λ v.
        sym (some-added_shares 1 v shares zeros (omega arith) placed each ∙ ap (λ b. b || is_among (support_of shares) v) (zero-place n v));
    value = λ numbers.
        sym (
        dense_sum-added_shares numbers 1 shares zeros placed
        ∙ ap (λ z. z +ℤ pos 1 *ℤ share_sum numbers shares) (dense_sum-zeros numbers n)
        ∙ +ℤ_idl (pos 1 *ℤ share_sum numbers shares)
        ∙ *ℤ_comm (pos 1) (share_sum numbers shares)
        ∙ times-one (share_sum numbers shares)
        );
  }

  -- Each share of the sums has a place below `n`.
  sums-inside : (made : List Share) → AreSharesOf sums made → AllByRecursion (λ share. share.0 < n) made
  sums-inside made of = subst (λ k. AllByRecursion (λ share. share.0 < k) made) count of.inside

-- the values over denominators, in the terms of numbers over them
values-over : (dens : List ℕ) (numbers : List ℤ) (values : List Value) → length numbers ≡ length dens → AreSameValues values (values_over dens numbers)
    → (v : ℕ) → v < length dens → IsOver (get_or dens v 1) (point_value values v) (get_or numbers v (pos 0))
values-over dens numbers values long same v inside =
    turned (point_value values v) (get_or numbers v (pos 0)) (get_or dens v 1)
    (subst (IsSameValue (point_value values v)) (there dens numbers v long inside) (same.same v (subst (λ n. v < n) (sym (as-long dens numbers long)) inside)))
  where
    turned : (x : Value) (n : ℤ) (c : ℕ) → x.num *ℤ pos c ≡ n *ℤ pos x.den → IsOver c x n
    turned x n c e = *ℤ_comm (pos c) x.num ∙ e ∙ *ℤ_comm n (pos x.den)

    as-long : (dens : List ℕ) (numbers : List ℤ) → length numbers ≡ length dens → length (values_over dens numbers) ≡ length dens
    as-long [] [] e = refl
    as-long [] (x ∷ numbers) e = absurd (omega (arith, e))
    as-long (d ∷ dens) [] e = absurd (omega (arith, e))
    as-long (d ∷ dens) (x ∷ numbers) e = ap suc (as-long dens numbers (omega (arith, e)))

    there : (dens : List ℕ) (numbers : List ℤ) (v : ℕ) → length numbers ≡ length dens → v < length dens
        → point_value (values_over dens numbers) v ≡ record { num = get_or numbers v (pos 0); den = get_or dens v 1 }
    there [] numbers v e h = absurd (omega (arith, h))
    there (d ∷ dens) [] v e h = absurd (omega (arith, e))
    there (d ∷ dens) (x ∷ numbers) zero e h = refl
    there (d ∷ dens) (x ∷ numbers) (suc v) e h = there dens numbers v (omega (arith, e)) (omega (arith, h))

-- A source has a denominator above 0, and is a part over each multiple of it within the bound.
abbrev pub IsKnown : Level → List ℕ → List ℕ → SourcePoint → Type 0
IsKnown level dens faces s =
    (0 < source_denominator level dens s) × ((m : ℕ) → 0 < m → m ≤ number_bound → source_denominator level dens s ∣ m → IsPart level dens faces m s)

-- a mask over the common denominator of its sources
module _ (level : Level) (dens faces : List ℕ) (points : ArePointDenominators level dens) (mask : Mask) (mean : IsTrue (is_mean mask))
    (known : AllByRecursion (λ t. IsKnown level dens faces t.source) mask.terms) (short : mask_denominator (source_denominator level dens) mask ≤ number_bound) where
  -- The common multiple of the denominators.
  abbrev pub common : ℕ
  common = lcm_of_all (map (λ t. source_denominator level dens t.source) mask.terms)

  above : 0 < common
  above = lcm_of_all-positive (map (λ t. source_denominator level dens t.source) mask.terms) (positive mask.terms known)
    where
      positive : (terms : List Term) → AllByRecursion (λ t. IsKnown level dens faces t.source) terms → AllByRecursion (λ a. 0 < a) (map (λ t. source_denominator level dens t.source) terms)
      positive [] h = tt
      positive (t ∷ terms) h = (h.0.0, positive terms h.1)

  weight-short : total_weight mask.terms * common ≤ number_bound
  weight-short = subst (λ n. n * common ≤ number_bound) (sym (mean-total mask mean)) short

  parts : AllByRecursion (λ t. IsPart level dens faces common t.source) mask.terms
  parts = each common above (least mask.denominator common (mean-positive mask mean) short) mask.terms known (all-divide_lcm (map (λ t. source_denominator level dens t.source) mask.terms))
    where
      least : (q m : ℕ) → 0 < q → q * m ≤ number_bound → m ≤ number_bound
      least zero m some h = absurd (omega (arith, some))
      least (suc q) m some h = omega (arith, h)

      each : (m : ℕ) → 0 < m → m ≤ number_bound → (terms : List Term) → AllByRecursion (λ t. IsKnown level dens faces t.source) terms
          → AllByRecursion (λ a. a ∣ m) (map (λ t. source_denominator level dens t.source) terms) → AllByRecursion (λ t. IsPart level dens faces m t.source) terms
      each m some short [] h d = tt
      each m some short (t ∷ terms) h d = (h.0.1 m some short d.0, each m some short terms h.1 d.1)

  weights-some : AllByRecursion (λ t. 0 < t.weight) mask.terms
  weights-some = each mask.terms (and_parts _ _ mean).0
    where
      each : (terms : List Term) → list_all (λ t. nat_lt 0 t.weight) terms ≡ true → AllByRecursion (λ t. 0 < t.weight) terms
      each [] h = tt
      each (t ∷ terms) h =
          let both = and_parts (nat_lt 0 t.weight) (list_all (λ s. nat_lt 0 s.weight) terms) h in
          (ltb-true 0 t.weight both.0, each terms both.1)

  abbrev all : List Share
  all = flat_shares level dens faces common mask.terms

  all-inside : AllByRecursion (λ share. share.0 < length dens) all
  all-inside = flat-inside level dens faces common above mask.terms parts

  all-placed : AllByRecursion (λ share. share.0 < level.point_count) all
  all-placed = subst (λ n. AllByRecursion (λ share. share.0 < n) all) points.count all-inside

  all-each : AllByRecursion (λ share. 0 < share.1) all
  all-each = flat-each level dens faces common above mask.terms weights-some parts

  all-weight : weigh_by dens all ≡ mask.denominator * common
  all-weight = flat-weight level dens faces common above mask.terms parts ∙ ap (λ n. n * common) (mean-total mask mean)

  -- each term can be weighed
  pub mask-weigh : AllByRecursion (CanWeighTerm level dens faces common) mask.terms
  mask-weigh = flat-can level dens faces common above mask.terms weight-short parts

  -- all can be added to zeros
  pub mask-can : (most : ℕ) → mask_denominator (source_denominator level dens) mask ≤ most → CanAddAll most all (replicate level.point_count 0)
  mask-can most fits = record {
    inside = placed level.point_count all all-placed all-each;
    each = all-each;
    short = omega (arith, replicate-sum level.point_count, total-below dens points.positive all all-inside, all-weight, short);
    fits = omega (arith, replicate-sum level.point_count, total-below dens points.positive all all-inside, all-weight, fits);
  }

  -- The shares of the sums.
  module _ (made : List Share) (of : AreSharesOf (added_shares 1 all (replicate level.point_count 0)) made) where
    made-placed : AllByRecursion (λ share. share.0 < level.point_count) made
    made-placed = sums-inside level.point_count all all-placed all-each made of

    made-weight : pos (weigh_by dens made) ≡ pos (weigh_by dens all)
    made-weight =
        sym (pos-weight dens made (subst (λ n. AllByRecursion (λ share. share.0 < n) made) (sym points.count) made-placed))
        ∙ sums-value level.point_count all all-placed all-each made of (map pos dens)
        ∙ pos-weight dens all all-inside

    same-nat : (a b : ℕ) → pos a ≡ pos b → a ≡ b
    same-nat a b e = cc

    made-weights : AreWeights level dens mask made
    made-weights = record {
      inside = All-from_recursion (λ share. share.0 < level.point_count) made made-placed;
      each = All-from_recursion (λ share. 0 < share.1) made of.each;
      total = same-nat (weigh_by dens made) (weigh_by dens all) made-weight ∙ all-weight;
      named = λ v. sums-among level.point_count all all-placed all-each made of v ∙ flat-named level dens faces common above v mask.terms;
      value = λ numbers values long same.
          subst (IsOver (mask.denominator * common) _)
          (sym (sums-value level.point_count all all-placed all-each made of numbers ∙ flat-value level dens faces common above numbers mask.terms))
          (terms-over mask.denominator common (source_value level values) (source_number level dens faces numbers common) mask.terms
          (flat-over level dens faces common above numbers values (values-over dens numbers values long same) mask.terms parts));
    }

  -- The shares of the sums are the weights of the mask.
  pub mask-weighed : IsWeighed level dens mask (added_shares 1 all (replicate level.point_count 0))
  mask-weighed = record {
    count = count level.point_count all all-placed all-each;
    weights = made-weights;
  }
