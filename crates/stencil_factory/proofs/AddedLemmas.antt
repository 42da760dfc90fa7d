-- Amounts added one after another, from the first of a slice on.
use Rattle.std.proofs.Common.{◌≡◌, ℕ, ◌-◌, ◌*◌, ◌/◌, ◌+◌, ◌<◌, ◌≤◌, List, [], ◌∷◌, ◌++◌, length, get_or, take, drop, arith, refl, ap, sym, ◌∙◌, subst}
use Rattle.std.specs.List.{All, AllByRecursion}
use Rattle.std.proofs.lemmas.List.{take_all, get_or_default}
use Rattle.std.proofs.lemmas.List.Elements.{recursion_from_All, All-from_recursion}
use Rattle.std.proofs.lemmas.List.Sums.{sum_by-append}
use Rattle.subdiv_model.specs.Polygons.{polygon_at}
use Rattle.subdiv_model.specs.Level.{Level}
use Rattle.subdiv_model.specs.Channel.{number_bound}
use Rattle.mask_rules.specs.declared.mask.At.{At}
use Rattle.mask_rules.specs.declared.mask.At.TheVariants.{Point, FacePoint}
use Rattle.mask_rules.specs.declared.mask.Term.{Term}
use Rattle.mask_rules.specs.View.{source_of, terms_of}
use Rattle.stencil_apply.specs.Table.{Share}
use Rattle.place_sums.specs.Sums.{added_at, added_shares, sum_of}
use Rattle.stencil_factory.specs.Flat.{corner_shares, source_shares, flat_shares, CanAddAll, CanWeigh, CanWeighTerm}
use Rattle.place_sums.proofs.SumLemmas.{length-added_shares, sum-added_shares}

-- a slice is its first element and the others
pub first-and-others : {X : Type 0} (xs : List X) (d : X) → 1 ≤ length xs → xs ≡ get_or xs 0 d ∷ take (length xs - 1) (drop 1 xs)
first-and-others [] d some = absurd (omega arith)
first-and-others (x ∷ xs) d some = ap (λ l. x ∷ l) (sym (take_all (length (x ∷ xs) - 1) xs (omega arith)))

-- a slice without a first element has none
pub none-left : {X : Type 0} (xs : List X) → length xs < 1 → xs ≡ []
none-left [] none = refl
none-left (x ∷ xs) none = absurd (omega arith)

-- one share is an amount at its place
pub added-one : (place amount : ℕ) (sums : List ℕ) → added_shares 1 ((place, amount) ∷ []) sums ≡ added_at place amount sums
added-one place amount sums = let once : 1 * amount ≡ amount = omega arith in ap (λ n. added_at place n sums) once

-- The share of a point equals the amount that the body computes.
point-amount : (dens : List ℕ) (m weight v amount : ℕ) → v < length dens → amount ≡ weight * (m / get_or dens v 0) → weight * (m / get_or dens v 1) ≡ amount
point-amount dens m weight v amount inside is = ap (λ den. weight * (m / den)) (get_or_default dens v 1 0 inside) ∙ sym is

-- A term whose weight is within the bound, by its source.
module _ (level : Level) (dens faces : List ℕ) (m : ℕ) (term : Term) (weigh : CanWeigh level dens faces m term.weight (source_of term.at)) where
  abbrev shares : At → List Share
  shares at = source_shares level dens faces m term.weight (source_of at)

  -- A point source has a denominator, and its weight is within the bound.
  pub weigh-point : (v : ℕ) → term.at ≡ Point v → (v < length dens) × (term.weight * (m / get_or dens v 0) ≤ number_bound)
  weigh-point v is =
      let own : CanWeigh level dens faces m term.weight (source_of (Point v)) = subst (λ at. CanWeigh level dens faces m term.weight (source_of at)) is weigh in
      (own.0, subst (λ den. term.weight * (m / den) ≤ number_bound) (get_or_default dens v 1 0 own.0) own.1)

  -- A face source has a denominator, and its weight is within the bound.
  pub weigh-face : (f : ℕ) → term.at ≡ FacePoint f → (f < length level.polygons) × (f < length faces) × (0 < get_or faces f 0) × (term.weight * (m / get_or faces f 0) ≤ number_bound)
  weigh-face f is =
      let own : CanWeigh level dens faces m term.weight (source_of (FacePoint f)) = subst (λ at. CanWeigh level dens faces m term.weight (source_of at)) is weigh in
      let den : get_or faces f 1 ≡ get_or faces f 0 = get_or_default faces f 1 0 own.1 in
      (own.0, own.1, subst (λ n. 0 < n) den own.2, subst (λ n. term.weight * (m / n) ≤ number_bound) den own.3)

  -- The source is a point.
  module _ (v amount : ℕ) (is : term.at ≡ Point v) (by : amount ≡ term.weight * (m / get_or dens v 0)) where
    -- the term adds one amount
    point-shares : shares term.at ≡ (v, amount) ∷ []
    point-shares = ap shares is ∙ ap (λ n. (v, n) ∷ []) (point-amount dens m term.weight v amount (weigh-point v is).0 by)

    -- The amount stays within the width.
    pub point-can : (most : ℕ) (sums : List ℕ) → CanAddAll most (shares term.at) sums → (v < length sums) × (0 < amount) × (sum_of sums + amount ≤ most)
    point-can most sums can =
        let own : CanAddAll most ((v, amount) ∷ []) sums = subst (λ l. CanAddAll most l sums) point-shares can in
        (own.inside.0, own.each.0, omega (arith, own.fits))

    -- The term adds only this amount.
    pub point-added : (sums new : List ℕ) → new ≡ added_at v amount sums → new ≡ added_shares 1 (shares term.at) sums
    point-added sums new added = added ∙ sym (added-one v amount sums) ∙ ap (λ l. added_shares 1 l sums) (sym point-shares)

  -- The source is a face. The term adds the amounts that the body computes at the corners.
  pub face-shares : (f factor multiple : ℕ) (corners : List ℕ) → term.at ≡ FacePoint f → corners ≡ polygon_at level.polygons f
      → factor ≡ term.weight * (m / get_or faces f 0) → multiple ≡ get_or faces f 0 / length corners → shares term.at ≡ corner_shares dens factor multiple corners
  face-shares f factor multiple corners at is by over =
      let den : get_or faces f 1 ≡ get_or faces f 0 = get_or_default faces f 1 0 (weigh-face f at).1 in
      let own : term.weight * (m / get_or faces f 1) ≡ factor = ap (λ n. term.weight * (m / n)) den ∙ sym by in
      let part : get_or faces f 1 / length (polygon_at level.polygons f) ≡ multiple = ap (λ n. n / length (polygon_at level.polygons f)) den ∙ ap (λ l. get_or faces f 0 / length l) (sym is) ∙ sym over in
      ap shares at
      ∙ ap (λ n. corner_shares dens n (get_or faces f 1 / length (polygon_at level.polygons f)) (polygon_at level.polygons f)) own
      ∙ ap (λ n. corner_shares dens factor n (polygon_at level.polygons f)) part
      ∙ ap (λ l. corner_shares dens factor multiple l) (sym is)

-- shares after others
added-append : (xs ys : List Share) (sums : List ℕ) → added_shares 1 (xs ++ ys) sums ≡ added_shares 1 ys (added_shares 1 xs sums)
added-append [] ys sums = refl
added-append (x ∷ xs) ys sums = added-append xs ys (added_at x.0 (1 * x.1) sums)

-- what holds of joined lists holds of each
pub all-first : {X : Type 0} (P : X → Type 0) (xs ys : List X) → AllByRecursion P (xs ++ ys) → AllByRecursion P xs
all-first P [] ys h = tt
all-first P (x ∷ xs) ys h = (h.0, all-first P xs ys h.1)

pub all-second : {X : Type 0} (P : X → Type 0) (xs ys : List X) → AllByRecursion P (xs ++ ys) → AllByRecursion P ys
all-second P [] ys h = h
all-second P (x ∷ xs) ys h = all-second P xs ys h.1

-- where all can be added, the first can, and then the rest
module _ (most : ℕ) (all xs ys : List Share) (split : all ≡ xs ++ ys) (sums : List ℕ) (can : CanAddAll most all sums) where
  here : CanAddAll most (xs ++ ys) sums
  here = subst (λ l. CanAddAll most l sums) split can

  pub can-first : CanAddAll most xs sums
  can-first = record {
    inside = all-first (λ share. share.0 < length sums) xs ys here.inside;
    each = all-first (λ share. 0 < share.1) xs ys here.each;
    short = omega (arith, here.short, sum_by-append (λ (share : Share). share.1) xs ys);
    fits = omega (arith, here.fits, sum_by-append (λ (share : Share). share.1) xs ys);
  }

  can-rest : CanAddAll most ys (added_shares 1 xs sums)
  can-rest = record {
    inside = subst (λ n. AllByRecursion (λ share. share.0 < n) ys) (sym (length-added_shares 1 xs sums)) (all-second (λ share. share.0 < length sums) xs ys here.inside);
    each = all-second (λ share. 0 < share.1) xs ys here.each;
    short = omega (arith, here.short, sum_by-append (λ (share : Share). share.1) xs ys, sum-added_shares 1 xs sums (all-first (λ share. share.0 < length sums) xs ys here.inside));
    fits = omega (arith, here.fits, sum_by-append (λ (share : Share). share.1) xs ys, sum-added_shares 1 xs sums (all-first (λ share. share.0 < length sums) xs ys here.inside));
  }

  module _ (new : List ℕ) (added : new ≡ added_shares 1 xs sums) where
    pub can-next : CanAddAll most ys new
    can-next = subst (CanAddAll most ys) (sym added) can-rest

    pub same-next : added_shares 1 ys new ≡ added_shares 1 all sums
    same-next = ap (added_shares 1 ys) added ∙ sym (added-append xs ys sums) ∙ ap (λ l. added_shares 1 l sums) (sym split)

-- the first corner of some, and the others
module _ (dens : List ℕ) (factor multiple : ℕ) (corners : List ℕ) (some : 1 ≤ length corners) (within : All (λ v. v < length dens) corners) where
  abbrev corner : ℕ
  corner = get_or corners 0 0

  abbrev others : List ℕ
  others = take (length corners - 1) (drop 1 corners)

  abbrev first : Share
  first = (corner, factor * (multiple / get_or dens corner 1))

  pub within-next : All (λ v. v < length dens) others
  within-next =
      All-from_recursion (λ v. v < length dens) others
      (subst (AllByRecursion (λ v. v < length dens)) (first-and-others corners 0 some) (recursion_from_All (λ v. v < length dens) corners within)).1

  corners-split : corner_shares dens factor multiple corners ≡ (first ∷ []) ++ corner_shares dens factor multiple others
  corners-split = ap (corner_shares dens factor multiple) (first-and-others corners 0 some)

  -- the first can be added
  pub first-can : (most : ℕ) (sums : List ℕ) (amount : ℕ) → CanAddAll most (corner_shares dens factor multiple corners) sums → amount ≡ factor * (multiple / get_or dens corner 0)
      → (corner < length sums) × (0 < amount) × (sum_of sums + amount ≤ number_bound) × (sum_of sums + amount ≤ most)
  first-can most sums amount can is =
      let one = can-first most _ (first ∷ []) (corner_shares dens factor multiple others) corners-split sums can in
      let same : factor * (multiple / get_or dens corner 1) ≡ amount = point-amount dens multiple factor corner amount (within 0 0 (omega (arith, some))) is in
      (one.inside.0, subst (λ n. 0 < n) same one.each.0, omega (arith, one.short, same), omega (arith, one.fits, same))

  -- once the first is added
  module _ (most : ℕ) (sums new : List ℕ) (can : CanAddAll most (corner_shares dens factor multiple corners) sums) (amount : ℕ)
      (is : amount ≡ factor * (multiple / get_or dens corner 0)) (added : new ≡ added_at corner amount sums) where
    corner-added : new ≡ added_shares 1 (first ∷ []) sums
    corner-added =
        let same : get_or dens corner 0 ≡ get_or dens corner 1 = get_or_default dens corner 0 1 (within 0 0 (omega (arith, some))) in
        added ∙ ap (λ n. added_at corner n sums) (is ∙ ap (λ d. factor * (multiple / d)) same) ∙ sym (added-one corner (factor * (multiple / get_or dens corner 1)) sums)

    pub corners-can : CanAddAll most (corner_shares dens factor multiple others) new
    corners-can = can-next most _ (first ∷ []) (corner_shares dens factor multiple others) corners-split sums can new corner-added

    pub corners-same : added_shares 1 (corner_shares dens factor multiple others) new ≡ added_shares 1 (corner_shares dens factor multiple corners) sums
    corners-same = same-next most _ (first ∷ []) (corner_shares dens factor multiple others) corners-split sums can new corner-added

-- a term
abbrev pub none : Term
none = record { at = Point 0; weight = 0 }

-- the first term of some, and the others
module _ (level : Level) (dens faces : List ℕ) (m : ℕ) (terms : List Term) (some : 1 ≤ length terms) where
  abbrev own : Term
  own = get_or terms 0 none

  abbrev later : List Term
  later = take (length terms - 1) (drop 1 terms)

  abbrev own_shares : List Share
  own_shares = source_shares level dens faces m own.weight (source_of own.at)

  pub weigh-first : AllByRecursion (CanWeighTerm level dens faces m) (terms_of terms) → CanWeigh level dens faces m own.weight (source_of own.at)
  weigh-first h = (subst (λ l. AllByRecursion (CanWeighTerm level dens faces m) (terms_of l)) (first-and-others terms none some) h).0

  pub weigh-next : AllByRecursion (CanWeighTerm level dens faces m) (terms_of terms) → AllByRecursion (CanWeighTerm level dens faces m) (terms_of later)
  weigh-next h = (subst (λ l. AllByRecursion (CanWeighTerm level dens faces m) (terms_of l)) (first-and-others terms none some) h).1

  terms-split : flat_shares level dens faces m (terms_of terms) ≡ own_shares ++ flat_shares level dens faces m (terms_of later)
  terms-split = ap (λ l. flat_shares level dens faces m (terms_of l)) (first-and-others terms none some)

  -- the first can be added, and then the others
  module _ (most : ℕ) (sums : List ℕ) (can : CanAddAll most (flat_shares level dens faces m (terms_of terms)) sums) where
    pub term-can : CanAddAll most own_shares sums
    term-can = can-first most _ own_shares (flat_shares level dens faces m (terms_of later)) terms-split sums can

    module _ (new : List ℕ) (added : new ≡ added_shares 1 own_shares sums) where
      pub terms-can : CanAddAll most (flat_shares level dens faces m (terms_of later)) new
      terms-can = can-next most _ own_shares (flat_shares level dens faces m (terms_of later)) terms-split sums can new added

      pub terms-same : added_shares 1 (flat_shares level dens faces m (terms_of later)) new ≡ added_shares 1 (flat_shares level dens faces m (terms_of terms)) sums
      terms-same = same-next most _ own_shares (flat_shares level dens faces m (terms_of later)) terms-split sums can new added
