-- Weights of points, joined by point.
use Rattle.std.proofs.Common.{◌≡◌, ℕ, zero, suc, ◌+◌, ◌*◌, ◌-◌, ◌<◌, ◌≤◌, Bool, true, false, not, ◌&&◌, ◌||◌, if◌then◌else◌, nat_eq, nat_lt, List, [], ◌∷◌, length, get_or, take, drop, replicate, arith, refl, ap, sym, ◌∙◌, subst}
use Rattle.std.specs.List.{AllByRecursion, list_all}
use Rattle.std.proofs.lemmas.Bool.{eq-eqb}
use Rattle.std.proofs.lemmas.Bool.Decides.{nat_tests}
use Rattle.std.proofs.lemmas.List.{length-replicate}
use Rattle.std.proofs.lemmas.List.Elements.{All-from_recursion, recursion_from_All}
use Rattle.std.proofs.lemmas.List.Sums.{sum_by-cons}
use Rattle.subdiv_model.specs.Polygons.{is_among}
use Rattle.subdiv_model.specs.Mask.{SourcePoint, OfPoint, OfFace, Mask, weigh, weight_in, has_source, has_distinct_sources, total_weight}
use Rattle.subdiv_model.specs.Mask as model
use Rattle.sharpness_laws.specs.SameWeights.{HaveSameWeights}
use Rattle.sharpness_laws.proofs.JoinedWeightLemmas.{weight_in-cons}
use Rattle.sharpness_laws.proofs.SameWeightLemmas.{same-total}
use Rattle.stencil_apply.specs.Table.{Share, total_of}
use Rattle.stencil_factory.specs.Rows.{support_of}
use Rattle.place_sums.specs.Sums.{added_at, added_shares, sum_of, shares_from}
use Rattle.stencil_factory.specs.MaskRows.{IsPointAmong, AreWeightsOf}
use Rattle.stencil_factory.specs.Joined.{terms_of_shares, mask_of_shares, AreJoined}
use Rattle.place_sums.proofs.SumLemmas.{length-added_at, length-added_shares, sum-added_at, place-added_at, shares-inside}
use Rattle.stencil_factory.proofs.RowLemmas.{zero-at}
use Rattle.stencil_factory.proofs.AddedLemmas.{first-and-others}

-- 0 adds nothing
pub added-none : (place : ℕ) (sums : List ℕ) → added_at place 0 sums ≡ sums
added-none place [] = refl
added-none zero (sum ∷ sums) = let same : sum + 0 ≡ sum = omega arith in ap (λ n. n ∷ sums) same
added-none (suc place) (sum ∷ sums) = ap (λ l. sum ∷ l) (added-none place sums)

-- The first weight of some, and the others.
module _ (rest : List Share) (some : 1 ≤ length rest) (sums : List ℕ) (inside : AllByRecursion (λ share. share.0 < length sums) rest) where
  abbrev first : Share
  first = get_or rest 0 (0, 0)

  abbrev others : List Share
  others = take (length rest - 1) (drop 1 rest)

  here : AllByRecursion (λ share. share.0 < length sums) (first ∷ others)
  here = subst (AllByRecursion (λ share. share.0 < length sums)) (first-and-others rest (0, 0) some) inside

  pub weight-inside : first.0 < length sums
  weight-inside = here.0

  total : total_of rest ≡ first.1 + total_of others
  total = ap total_of (first-and-others rest (0, 0) some) ∙ sum_by-cons (λ (share : Share). share.1) first others

  pub weight-fits : (most : ℕ) → sum_of sums + total_of rest ≤ most → sum_of sums + first.1 ≤ most
  weight-fits most fits = omega (arith, fits, total)

  module _ (new : List ℕ) (added : new ≡ added_at first.0 first.1 sums) where
    pub weights-all : (whole : List ℕ) → added_shares 1 rest sums ≡ whole → added_shares 1 others new ≡ whole
    weights-all whole all =
        let once : first.1 ≡ 1 * first.1 = omega arith in
        ap (added_shares 1 others) (added ∙ ap (λ n. added_at first.0 n sums) once)
        ∙ ap (λ l. added_shares 1 l sums) (sym (first-and-others rest (0, 0) some)) ∙ all

    pub weights-inside : AllByRecursion (λ share. share.0 < length new) others
    weights-inside = subst (λ n. AllByRecursion (λ share. share.0 < n) others) (sym (ap length added ∙ length-added_at first.0 first.1 sums)) here.1

    pub weights-fit : (most : ℕ) → sum_of sums + total_of rest ≤ most → sum_of new + total_of others ≤ most
    weights-fit most fits = omega (arith, fits, total, ap sum_of added, sum-added_at first.0 first.1 sums here.0)

-- The sum at a place grows by the weight of its point in the added shares.
pub place-weight : (v : ℕ) (shares : List Share) (sums : List ℕ) → AllByRecursion (λ share. share.0 < length sums) shares
    → get_or (added_shares 1 shares sums) v 0 ≡ get_or sums v 0 + weight_in (terms_of_shares shares) (OfPoint v)
place-weight v [] sums h = omega arith
place-weight v (share ∷ shares) sums h =
    let rest = subst (λ n. AllByRecursion (λ (s : Share). s.0 < n) shares) (sym (length-added_at share.0 (1 * share.1) sums)) h.1 in
    step (nat_eq share.0 v) (nat_eq v share.0) (flipped share.0 v) share.1 _ _ _ _ _
    (place-weight v shares (added_at share.0 (1 * share.1) sums) rest) (place-added_at share.0 (1 * share.1) v sums h.0) (weight_in-cons (weigh share.1 (OfPoint share.0)) (terms_of_shares shares) (OfPoint v))
  where
    flipped : (a b : ℕ) → nat_eq a b ≡ nat_eq b a
    flipped a b = grind (arith, nat_tests)

    step : (b d : Bool) → b ≡ d → (w x y z old all : ℕ) → x ≡ y + z → y ≡ old + (if b then 1 * w else 0) → all ≡ (if d then w else 0) + z → x ≡ old + all
    step true true e w x y z old all h k l = omega (arith, h, k, l)
    step false false e w x y z old all h k l = omega (arith, h, k, l)
    step true false e w x y z old all h k l = absurd (cc)
    step false true e w x y z old all h k l = absurd (cc)

zero-plus : (n : ℕ) → 0 + n ≡ n
zero-plus n = omega arith

-- points name no face
no-face : (f : ℕ) (shares : List Share) → weight_in (terms_of_shares shares) (OfFace f) ≡ 0
no-face f [] = refl
no-face f (share ∷ shares) = weight_in-cons (weigh share.1 (OfPoint share.0)) (terms_of_shares shares) (OfFace f) ∙ zero-plus (weight_in (terms_of_shares shares) (OfFace f)) ∙ no-face f shares

other-place : (a b : ℕ) → a < b → nat_eq a b ≡ false
other-place a b h = grind (arith, nat_tests, h)

-- sums have no share before their first place
none-has : (v place : ℕ) (sums : List ℕ) → v < place → has_source (terms_of_shares (shares_from place sums)) (OfPoint v) ≡ false
none-has v place [] h = refl
none-has v place (zero ∷ sums) h = none-has v (place + 1) sums (omega (arith, h))
none-has v place (suc n ∷ sums) h =
    ap (λ b. b || has_source (terms_of_shares (shares_from (place + 1) sums)) (OfPoint v)) (other-place v place h) ∙ none-has v (place + 1) sums (omega (arith, h))

pub none-among : (v place : ℕ) (sums : List ℕ) → v < place → is_among (support_of (shares_from place sums)) v ≡ false
none-among v place [] h = refl
none-among v place (zero ∷ sums) h = none-among v (place + 1) sums (omega (arith, h))
none-among v place (suc n ∷ sums) h =
    ap (λ b. b || is_among (support_of (shares_from (place + 1) sums)) v) (other-place v place h) ∙ none-among v (place + 1) sums (omega (arith, h))

none-weight : (v place : ℕ) (sums : List ℕ) → v < place → weight_in (terms_of_shares (shares_from place sums)) (OfPoint v) ≡ 0
none-weight v place [] h = refl
none-weight v place (zero ∷ sums) h = none-weight v (place + 1) sums (omega (arith, h))
none-weight v place (suc n ∷ sums) h =
    weight_in-cons (weigh (suc n) (OfPoint place)) (terms_of_shares (shares_from (place + 1) sums)) (OfPoint v)
    ∙ ap (λ b. (if b then suc n else 0) + weight_in (terms_of_shares (shares_from (place + 1) sums)) (OfPoint v)) (other-place v place h)
    ∙ zero-plus (weight_in (terms_of_shares (shares_from (place + 1) sums)) (OfPoint v)) ∙ none-weight v (place + 1) sums (omega (arith, h))

-- a share has the sum of its place
pub sum-weight : (k place : ℕ) (sums : List ℕ) → weight_in (terms_of_shares (shares_from place sums)) (OfPoint (place + k)) ≡ get_or sums k 0
sum-weight k place [] = refl
sum-weight zero place (zero ∷ sums) = none-weight (place + 0) (place + 1) sums (omega arith)
sum-weight zero place (suc n ∷ sums) =
    let same : place + 0 ≡ place = omega arith in
    let last : suc n + 0 ≡ suc n = omega arith in
    ap (λ v. weight_in (terms_of_shares (shares_from place (suc n ∷ sums))) (OfPoint v)) same
    ∙ weight_in-cons (weigh (suc n) (OfPoint place)) (terms_of_shares (shares_from (place + 1) sums)) (OfPoint place)
    ∙ ap (λ b. (if b then suc n else 0) + weight_in (terms_of_shares (shares_from (place + 1) sums)) (OfPoint place)) (eq-eqb place place refl)
    ∙ ap (λ m. suc n + m) (none-weight place (place + 1) sums (omega arith)) ∙ last
sum-weight (suc k) place (zero ∷ sums) =
    let same : place + suc k ≡ place + 1 + k = omega arith in
    ap (λ v. weight_in (terms_of_shares (shares_from (place + 1) sums)) (OfPoint v)) same ∙ sum-weight k (place + 1) sums
sum-weight (suc k) place (suc n ∷ sums) =
    let same : place + suc k ≡ place + 1 + k = omega arith in
    weight_in-cons (weigh (suc n) (OfPoint place)) (terms_of_shares (shares_from (place + 1) sums)) (OfPoint (place + suc k))
    ∙ ap (λ b. (if b then suc n else 0) + weight_in (terms_of_shares (shares_from (place + 1) sums)) (OfPoint (place + suc k))) (later (place + suc k) place (omega arith))
    ∙ zero-plus (weight_in (terms_of_shares (shares_from (place + 1) sums)) (OfPoint (place + suc k)))
    ∙ ap (λ v. weight_in (terms_of_shares (shares_from (place + 1) sums)) (OfPoint v)) same ∙ sum-weight k (place + 1) sums
  where
    later : (a b : ℕ) → b < a → nat_eq a b ≡ false
    later a b h = grind (arith, nat_tests, h)

-- Each place occurs once.
once : (place : ℕ) (sums : List ℕ) → has_distinct_sources (terms_of_shares (shares_from place sums)) ≡ true
once place [] = refl
once place (zero ∷ sums) = once (place + 1) sums
once place (suc n ∷ sums) =
    ap (λ b. not b && has_distinct_sources (terms_of_shares (shares_from (place + 1) sums))) (none-has place (place + 1) sums (omega arith)) ∙ once (place + 1) sums

-- No share is 0.
above : (place : ℕ) (sums : List ℕ) → list_all (λ t. nat_lt 0 t.weight) (terms_of_shares (shares_from place sums)) ≡ true
above place [] = refl
above place (zero ∷ sums) = above (place + 1) sums
above place (suc n ∷ sums) = ap (λ b. b && list_all (λ t. nat_lt 0 t.weight) (terms_of_shares (shares_from (place + 1) sums))) (some n) ∙ above (place + 1) sums
  where
    some : (n : ℕ) → nat_lt 0 (suc n) ≡ true
    some n = grind (arith, nat_tests)

-- The weights that a caller gave, each added at its point.
module _ (count : ℕ) (mask given : Mask) (are : AreWeightsOf count mask given) (raw : List Share) (raw_are : terms_of_shares raw ≡ given.terms) where
  -- each has a place
  pub given-inside : AllByRecursion (λ share. share.0 < count) raw
  given-inside = each raw (subst (AllByRecursion (λ t. IsPointAmong count t.source)) (sym raw_are) (recursion_from_All (λ (t : model.Term). IsPointAmong count t.source) given.terms are.points))
    where
      each : (shares : List Share) → AllByRecursion (λ t. IsPointAmong count t.source) (terms_of_shares shares) → AllByRecursion (λ share. share.0 < count) shares
      each [] h = tt
      each (share ∷ shares) h = (h.0, each shares h.1)

  -- The weights sum to the denominator.
  pub given-total : total_of raw ≡ given.denominator
  given-total = each raw ∙ ap total_weight raw_are ∙ are.total
    where
      each : (shares : List Share) → total_of shares ≡ total_weight (terms_of_shares shares)
      each [] = refl
      each (share ∷ shares) =
          omega (arith, sum_by-cons (λ (s : Share). s.1) share shares, sum_by-cons (λ (t : model.Term). t.weight) (weigh share.1 (OfPoint share.0)) (terms_of_shares shares), each shares)

  module _ (sums : List ℕ) (added : sums ≡ added_shares 1 raw (replicate count 0)) where
    abbrev joined : Mask
    joined = mask_of_shares given.denominator (shares_from 0 sums)

    abbrev zeros : List ℕ
    zeros = replicate count 0

    placed : AllByRecursion (λ share. share.0 < length zeros) raw
    placed = subst (λ n. AllByRecursion (λ (share : Share). share.0 < n) raw) (sym (length-replicate count 0)) given-inside

    weights : (source : SourcePoint) → weight_in joined.terms source ≡ weight_in mask.terms source
    weights (OfPoint v) =
        let from : v ≡ 0 + v = omega arith in
        let plus : 0 + weight_in (terms_of_shares raw) (OfPoint v) ≡ weight_in (terms_of_shares raw) (OfPoint v) = omega arith in
        ap (λ u. weight_in joined.terms (OfPoint u)) from ∙ sum-weight v 0 sums ∙ ap (λ l. get_or l v 0) added ∙ place-weight v raw (replicate count 0) placed
        ∙ ap (λ n. n + weight_in (terms_of_shares raw) (OfPoint v)) (zero-at count v) ∙ plus
        ∙ ap (λ ts. weight_in ts (OfPoint v)) raw_are ∙ are.same.weights (OfPoint v)
    weights (OfFace f) =
        no-face f (shares_from 0 sums) ∙ sym (no-face f raw) ∙ ap (λ ts. weight_in ts (OfFace f)) raw_are ∙ are.same.weights (OfFace f)

    same : HaveSameWeights joined mask
    same = record { denominator = are.same.denominator; weights = weights }

    whole : total_weight joined.terms ≡ given.denominator
    whole = same-total joined mask same ∙ sym (same-total given mask are.same) ∙ are.total

    length-sums : length sums ≡ count
    length-sums = ap length added ∙ length-added_shares 1 raw (replicate count 0) ∙ length-replicate count 0

    pub are-joined : (shares : List Share) → shares ≡ shares_from 0 sums → AreJoined count mask given.denominator shares
    are-joined shares is = subst (AreJoined count mask given.denominator) (sym is) (record {
      same = record {
        same = same;
        joined = both _ _ (once 0 sums) (above 0 sums);
        mean = all _ _ _ (above 0 sums) (eq-eqb _ _ whole) (lower _ are.positive);
      };
      joined = are.joined;
      inside = All-from_recursion (λ (share : Share). share.0 < count) (shares_from 0 sums) (below (shares_from 0 sums) (shares-inside 0 sums));
    })
      where
        both : (a b : Bool) → a ≡ true → b ≡ true → (a && b) ≡ true
        both a b h k = cc

        all : (a b d : Bool) → a ≡ true → b ≡ true → d ≡ true → (a && (b && d)) ≡ true
        all a b d h k l = cc

        lower : (n : ℕ) → 0 < n → nat_lt 0 n ≡ true
        lower n h = grind (arith, nat_tests, h)

        below : (list : List Share) → AllByRecursion (λ share. (0 ≤ share.0) × (share.0 < 0 + length sums)) list → AllByRecursion (λ share. share.0 < count) list
        below [] h = tt
        below (share ∷ list) h = (omega (arith, h.0.1, length-sums), below list h.1)
