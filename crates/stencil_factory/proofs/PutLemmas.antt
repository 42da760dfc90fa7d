-- The weights that a caller gave for a mask: the points they name, their common denominator, and their amounts.
use Rattle.std.proofs.Common.{◌≡◌, ℕ, zero, suc, ◌+◌, ◌-◌, ◌*◌, ◌/◌, ◌<◌, ◌≤◌, Bool, true, false, ◌||◌, nat_eq, nat_lt, List, [], ◌∷◌, ◌++◌, length, map, get_or, take, drop, replicate, arith, refl, ap, sym, ◌∙◌, subst}
use Rattle.std.specs.List.{All, AllByRecursion}
use Rattle.std.proofs.lemmas.Bool.Decides.{nat_tests}
use Rattle.std.proofs.lemmas.List.{length-replicate, map-append}
use Rattle.std.proofs.lemmas.List.Elements.{All-from_recursion, recursion_from_All, filter-append}
use Rattle.subdiv_model.specs.Polygons.{is_among}
use Rattle.subdiv_model.specs.Level.{Level}
use Rattle.subdiv_model.specs.Multiples.{lcm_of_all}
use Rattle.subdiv_model.specs.Mask.{OfPoint, Mask, weight_in}
use Rattle.subdiv_model.specs.Refined.{mask_denominator, source_denominator}
use Rattle.subdiv_model.specs.Channel.{number_bound}
use Rattle.number_laws.proofs.MultipleLemmas.{product-positive}
use Rattle.child_masks.specs.Found.{ArePointDenominators}
use Rattle.child_masks.proofs.DenLemmas.{dens-positive}
use Rattle.stencil_apply.specs.Table.{Share, total_of}
use Rattle.stencil_factory.specs.Rows.{support_of}
use Rattle.place_sums.specs.Sums.{added_shares, shares_from, sum_of, AreSharesOf}
use Rattle.stencil_factory.specs.Flat.{CanAddAll, IsWeighed}
use Rattle.stencil_factory.specs.PlaceSet.{Places, with_places}
use Rattle.stencil_factory.specs.Named.{AreNamed}
use Rattle.stencil_factory.specs.MaskRows.{AreWeightsOf}
use Rattle.stencil_factory.specs.Joined.{terms_of_shares, amounts_of, weighing, AreJoined}
use Rattle.stencil_factory.specs.Weights.{is_named, AreWeights}
use Rattle.stencil_factory.proofs.AddedLemmas.{first-and-others, can-first, can-next, same-next}
use Rattle.place_sums.proofs.SumLemmas.{sum-added_shares, some-added_shares}
use Rattle.stencil_factory.proofs.RowLemmas.{zero-at}
use Rattle.stencil_factory.proofs.WeightLemmas.{sums-themselves}
use Rattle.stencil_factory.proofs.JoinLemmas.{given-inside, are-joined, place-weight, sum-weight}
use Rattle.stencil_factory.proofs.WeighingLemmas.{weighing-above, weighing-all, weighing-added, among-sums, same-added, weighing-some, weighing-none}
use Rattle.stencil_factory.proofs.PointLemmas.{joined-names, joined-named, joined-den, joined-positive, joined-can, joined-weighed}
use Rattle.stencil_factory.proofs.FoundLemmas.{common-positive}

-- Amounts above 0.
module _ (dens : List ℕ) (m : ℕ) where
  abbrev factor : ℕ → ℕ
  factor v = m / get_or dens v 1

  factor-above : (w f : ℕ) → 0 < w * f → 0 < f
  factor-above w zero h = let none : w * 0 ≡ 0 = omega arith in absurd (omega (arith, h, none))
  factor-above w (suc f) h = omega arith

  some-product : (w f : ℕ) → 0 < w → 0 < f → 0 < w * f
  some-product w f h k = grind (arith, h, k)

  -- a point of amounts above 0 has a factor above 0
  among-factor : (v : ℕ) (shares : List Share) → AllByRecursion (λ share. 0 < share.1) (amounts_of dens m shares) → is_among (support_of shares) v ≡ true → 0 < factor v
  among-factor v [] h k = absurd (cc)
  among-factor v (share ∷ shares) h k = step (nat_eq v share.0) refl (among-factor v shares h.1)
    where
      same : (a b : ℕ) → true ≡ nat_eq a b → b ≡ a
      same a b h = grind (arith, nat_tests, h)

      step : (b : Bool) → b ≡ nat_eq v share.0 → (is_among (support_of shares) v ≡ true → 0 < factor v) → 0 < factor v
      step true e rest = subst (λ u. 0 < factor u) (same v share.0 e) (factor-above share.1 (factor share.0) h.0)
      step false e rest = rest (ap (λ b. b || is_among (support_of shares) v) e ∙ k)

  -- weights above 0 of such points have amounts above 0
  amounts-above : (shares : List Share) → AllByRecursion (λ share. 0 < share.1) shares → ((v : ℕ) → is_among (support_of shares) v ≡ true → 0 < factor v)
      → AllByRecursion (λ share. 0 < share.1) (amounts_of dens m shares)
  amounts-above [] h k = tt
  amounts-above (share ∷ shares) h k = (
    some-product share.1 (factor share.0) h.0 (k share.0 (here (nat_eq share.0 share.0) (is_among (support_of shares) share.0) (own share.0))),
    amounts-above shares h.1 (λ v l. k v (later (nat_eq v share.0) (is_among (support_of shares) v) l)),
  )
    where
      own : (v : ℕ) → nat_eq v v ≡ true
      own v = grind (arith, nat_tests)

      here : (b d : Bool) → b ≡ true → (b || d) ≡ true
      here b d h = ap (λ e. e || d) h

      later : (b d : Bool) → d ≡ true → (b || d) ≡ true
      later true d h = refl
      later false d h = h

  amounts-inside : (n : ℕ) (shares : List Share) → AllByRecursion (λ share. share.0 < n) shares → AllByRecursion (λ share. share.0 < n) (amounts_of dens m shares)
  amounts-inside n [] h = tt
  amounts-inside n (share ∷ shares) h = (h.0, amounts-inside n shares h.1)

module _ (level : Level) (mask put : Mask) (are : AreWeightsOf level.point_count mask put) (raw : List Share) (raw_are : terms_of_shares raw ≡ put.terms) where
  abbrev count : ℕ
  count = level.point_count

  abbrev zeros : List ℕ
  zeros = replicate count 0

  abbrev sums : List ℕ
  sums = added_shares 1 raw zeros

  abbrev joined : List Share
  joined = shares_from 0 sums

  is-joined : AreJoined count mask put.denominator joined
  is-joined = are-joined count mask put are raw raw_are sums refl joined refl

  raw-inside : AllByRecursion (λ share. share.0 < count) raw
  raw-inside = given-inside count mask put are raw raw_are

  -- each has a place
  pub put-inside : (n : ℕ) → n ≡ count → All (λ share. share.0 < n) raw
  put-inside n is = subst (λ k. All (λ (share : Share). share.0 < k) raw) (sym is) (All-from_recursion (λ (share : Share). share.0 < count) raw raw-inside)

  inside : AllByRecursion (λ share. share.0 < length zeros) (weighing raw)
  inside =
      weighing-all (λ (share : Share). share.0 < length zeros) raw
      (subst (λ n. AllByRecursion (λ (share : Share). share.0 < n) raw) (sym (length-replicate count 0)) raw-inside)

  -- The points with a weight above 0 are the points of the joined weights.
  among : (v : ℕ) → is_among (support_of (weighing raw)) v ≡ is_among (support_of joined) v
  among v =
      let none : get_or zeros v 0 ≡ 0 = zero-at count v in
      let from : 0 + v ≡ v = omega arith in
      sym (ap (λ n. nat_lt 0 n || is_among (support_of (weighing raw)) v) none)
      ∙ sym (some-added_shares 1 v (weighing raw) zeros (omega arith) inside (weighing-above raw))
      ∙ ap (λ l. nat_lt 0 (get_or l v 0)) (weighing-added raw zeros)
      ∙ sym (among-sums 0 v sums) ∙ ap (is_among (support_of joined)) from

  -- The points with a weight above 0 are the points that the mask names.
  put-names : (v : ℕ) → is_among (support_of (weighing raw)) v ≡ is_named level mask v
  put-names v = among v ∙ joined-names level mask put.denominator joined is-joined v

  -- The set after all points of the weights were added.
  pub put-named : (old start new : Places) → old.count ≡ count → start ≡ record { count = old.count; mark = old.mark + 1; members = [] }
      → new ≡ with_places (support_of (weighing raw)) start → AreNamed level mask (old.mark + 1) new
  put-named = joined-named level mask put.denominator joined is-joined (support_of (weighing raw)) among

  pub put-positive : 0 < put.denominator
  put-positive = joined-positive level mask put.denominator joined is-joined

  -- the common denominator
  module _ (dens : List ℕ) (points : ArePointDenominators level dens) where
    abbrev multiple : ℕ
    multiple = lcm_of_all (map (λ v. get_or dens v 1) (support_of (weighing raw)))

    pub put-den : put.denominator * multiple ≡ mask_denominator (source_denominator level dens) mask
    put-den = joined-den level mask put.denominator joined is-joined dens (dens-positive dens points.positive) (support_of (weighing raw)) among

    pub multiple-positive : 0 < multiple
    multiple-positive = common-positive dens points.positive (support_of (weighing raw))

    pub den-positive : 0 < mask_denominator (source_denominator level dens) mask
    den-positive = subst (λ n. 0 < n) put-den (product-positive put.denominator multiple put-positive multiple-positive)

    -- The weights over the common denominator.
    module _ (den : ℕ) (den_is : den ≡ mask_denominator (source_denominator level dens) mask) (short : den ≤ number_bound)
        (m : ℕ) (m_is : m ≡ den / put.denominator) (start : List ℕ) (clear : start ≡ zeros) where
      weights : (v : ℕ) → weight_in (terms_of_shares (weighing raw)) (OfPoint v) ≡ weight_in (terms_of_shares joined) (OfPoint v)
      weights v =
          let from : 0 + v ≡ v = omega arith in
          let plus : 0 + weight_in (terms_of_shares (weighing raw)) (OfPoint v) ≡ weight_in (terms_of_shares (weighing raw)) (OfPoint v) = omega arith in
          sym plus ∙ ap (λ n. n + weight_in (terms_of_shares (weighing raw)) (OfPoint v)) (sym (zero-at count v))
          ∙ sym (place-weight v (weighing raw) zeros inside) ∙ ap (λ l. get_or l v 0) (weighing-added raw zeros)
          ∙ sym (sum-weight v 0 sums) ∙ ap (λ u. weight_in (terms_of_shares joined) (OfPoint u)) from

      joined-inside : AllByRecursion (λ share. share.0 < length zeros) joined
      joined-inside =
          subst (λ n. AllByRecursion (λ (share : Share). share.0 < n) joined) (sym (length-replicate count 0))
          (recursion_from_All (λ (share : Share). share.0 < count) joined is-joined.inside)

      same : added_shares 1 (amounts_of dens m (weighing raw)) zeros ≡ added_shares 1 (amounts_of dens m joined) zeros
      same = same-added dens m (weighing raw) joined zeros inside joined-inside weights

      pub put-can : (most : ℕ) → den ≤ most → CanAddAll most (amounts_of dens m (weighing raw)) start
      put-can most fits = subst (CanAddAll most (amounts_of dens m (weighing raw))) (sym clear) (record {
        inside = amounts-inside dens m (length zeros) (weighing raw) inside;
        each = amounts-above dens m (weighing raw) (weighing-above raw) (λ v h. among-factor dens m v joined can.each (sym (among v) ∙ h));
        short = omega (arith, can.short, total);
        fits = omega (arith, can.fits, total);
      })
        where
          can : CanAddAll most (amounts_of dens m joined) zeros
          can = joined-can level mask put.denominator joined is-joined dens points den den_is short m m_is zeros refl most fits

          total : total_of (amounts_of dens m (weighing raw)) ≡ total_of (amounts_of dens m joined)
          total =
              omega (
                arith,
                ap sum_of same,
                sum-added_shares 1 (amounts_of dens m (weighing raw)) zeros (amounts-inside dens m (length zeros) (weighing raw) inside),
                sum-added_shares 1 (amounts_of dens m joined) zeros can.inside,
              )

      pub put-weighed : (new : List ℕ) → new ≡ added_shares 1 (amounts_of dens m (weighing raw)) start → IsWeighed level dens mask new
      put-weighed new added =
          joined-weighed level mask put.denominator joined is-joined dens points den den_is short m m_is zeros refl new
          (added ∙ ap (added_shares 1 (amounts_of dens m (weighing raw))) clear ∙ same)

      -- the amounts themselves are weights of the mask
      pub put-amounts : AreWeights level dens mask (amounts_of dens m (weighing raw))
      put-amounts =
          let amounts = amounts_of dens m (weighing raw) in
          let placed = amounts-inside dens m count (weighing raw) (weighing-all (λ (share : Share). share.0 < count) raw raw-inside) in
          (put-weighed (added_shares 1 amounts start) refl).weights amounts
          (subst (λ sums. AreSharesOf (added_shares 1 amounts sums) amounts) (sym clear) (sums-themselves count amounts placed (put-can den (omega arith)).each))

-- A round of a loop over weights: those of the first, and of the others.
module _ (rest : List Share) (some : 1 ≤ length rest) where
  abbrev first : Share
  first = get_or rest 0 (0, 0)

  abbrev others : List Share
  others = take (length rest - 1) (drop 1 rest)

  pub weighing-split : weighing rest ≡ weighing (first ∷ []) ++ weighing others
  weighing-split = ap weighing (first-and-others rest (0, 0) some) ∙ filter-append (λ (share : Share). nat_lt 0 share.1) (first ∷ []) others

  pub support-split : support_of (weighing rest) ≡ support_of (weighing (first ∷ [])) ++ support_of (weighing others)
  support-split = ap support_of weighing-split ∙ map-append (λ (share : Share). share.0) (weighing (first ∷ [])) (weighing others)

  -- The remaining weights have places.
  pub others-inside : (n : ℕ) → All (λ share. share.0 < n) rest → All (λ share. share.0 < n) others
  others-inside n h =
      All-from_recursion (λ (share : Share). share.0 < n) others
      (subst (AllByRecursion (λ (share : Share). share.0 < n)) (first-and-others rest (0, 0) some) (recursion_from_All (λ (share : Share). share.0 < n) rest h)).1

  -- the amounts of the others can be added after those of the first
  module _ (dens : List ℕ) (m most : ℕ) (sums : List ℕ) (can : CanAddAll most (amounts_of dens m (weighing rest)) sums) where
    split : amounts_of dens m (weighing rest) ≡ amounts_of dens m (weighing (first ∷ [])) ++ amounts_of dens m (weighing others)
    split = ap (amounts_of dens m) weighing-split ∙ map-append (λ (share : Share). (share.0, share.1 * (m / get_or dens share.0 1))) (weighing (first ∷ [])) (weighing others)

    pub first-can : CanAddAll most (amounts_of dens m (weighing (first ∷ []))) sums
    first-can = can-first most _ (amounts_of dens m (weighing (first ∷ []))) (amounts_of dens m (weighing others)) split sums can

    module _ (new : List ℕ) (added : new ≡ added_shares 1 (amounts_of dens m (weighing (first ∷ []))) sums) where
      pub others-can : CanAddAll most (amounts_of dens m (weighing others)) new
      others-can = can-next most _ (amounts_of dens m (weighing (first ∷ []))) (amounts_of dens m (weighing others)) split sums can new added

      pub others-same : added_shares 1 (amounts_of dens m (weighing others)) new ≡ added_shares 1 (amounts_of dens m (weighing rest)) sums
      others-same = same-next most _ (amounts_of dens m (weighing (first ∷ []))) (amounts_of dens m (weighing others)) split sums can new added

-- One weight.
pub one-none : (weight : Share) → weight.1 ≡ 0 → weighing (weight ∷ []) ≡ []
one-none weight h = weighing-none weight [] (none weight.1 h)
  where
    none : (n : ℕ) → n ≡ 0 → nat_lt 0 n ≡ false
    none n h = grind (arith, nat_tests, h)

pub one-some : (weight : Share) → (weight.1 ≡ 0 → ⊥) → weighing (weight ∷ []) ≡ weight ∷ []
one-some weight h = weighing-some weight [] (above weight.1 h)
  where
    above : (n : ℕ) → (n ≡ 0 → ⊥) → nat_lt 0 n ≡ true
    above zero h = absurd (h refl)
    above (suc n) h = grind (arith, nat_tests)
