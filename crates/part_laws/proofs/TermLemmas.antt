-- Terms and masks with the sources of the whole.
use Rattle.std.proofs.Common.{◌≡◌, ℕ, ◌+◌, ◌*◌, ◌/◌, ◌-◌, Bool, true, false, ◌&&◌, nat_eq, nat_lt, if◌then◌else◌, List, [], ◌∷◌, ◌++◌, map, refl, ap, sym, ◌∙◌, subst}
use Rattle.std.specs.List.{filter, list_all, sum_by}
use Rattle.std.proofs.lemmas.Bool.{and_from}
use Rattle.std.proofs.lemmas.List.{map-append}
use Rattle.std.proofs.lemmas.List.Folds.{list_all-append}
use Rattle.std.proofs.lemmas.List.Sums.{sum_by-cons}
use Rattle.subdiv_model.specs.Multiples.{lcm_of}
use Rattle.subdiv_model.specs.Mask.{SourcePoint, OfPoint, OfFace, Term, Mask, same_source, weigh, weigh_points, weigh_faces, weight_in, each_once, scaled_terms, joined_terms, mask_of, blend, transition_mask}
use Rattle.part_laws.specs.Parts.{face_in}
use Rattle.part_laws.specs.Masks.{source_in, term_in, mask_in}
use Rattle.part_laws.proofs.ListLemmas.{map-agree, map-twice, filter-mapped, once-mapped, all-filtered, all-once}

pub all-true : {X : Type 0} (xs : List X) → list_all (λ x. true) xs ≡ true
all-true [] = refl
all-true (x ∷ xs) = all-true xs

all-mapped : {X Y : Type 0} (test : Y → Bool) (f : X → Y) (xs : List X) → list_all test (map f xs) ≡ list_all (λ x. test (f x)) xs
all-mapped test f [] = refl
all-mapped test f (x ∷ xs) = ap (λ b. test (f x) && b) (all-mapped test f xs)

-- the points and the faces that a mask may name
abbrev pub is_own : (ℕ → Bool) → (ℕ → Bool) → SourcePoint → Bool
is_own point face (OfPoint p) = point p
is_own point face (OfFace k) = face k

module _ (name : ℕ → ℕ) (faces : List ℕ) (point face : ℕ → Bool) where
  abbrev own : Term → Bool
  own t = is_own point face t.source

  -- the first terms name only own sources, and the second are the first with the sources of the whole
  pub record AreTermsIn (terms others : List Term) : Type 0 where
    pub own_sources : list_all (λ t. is_own point face t.source) terms ≡ true
    pub in_whole : others ≡ map (term_in name faces) terms

  pub record IsMaskIn (mask other : Mask) : Type 0 where
    pub own_sources : list_all (λ t. is_own point face t.source) mask.terms ≡ true
    pub in_whole : other ≡ mask_in name faces mask

  pub no-terms : AreTermsIn [] []
  no-terms = record { own_sources = refl; in_whole = refl }

  pub point-terms : (weight : ℕ) (points : List ℕ) → list_all point points ≡ true → AreTermsIn (weigh_points weight points) (weigh_points weight (map name points))
  point-terms weight points all = record {
    own_sources = all-mapped own (λ v. weigh weight (OfPoint v)) points ∙ all;
    in_whole = map-twice name (λ v. weigh weight (OfPoint v)) points ∙ sym (map-twice (λ v. weigh weight (OfPoint v)) (term_in name faces) points);
  }

  pub face-terms : (weight : ℕ) (some : List ℕ) → list_all face some ≡ true → AreTermsIn (weigh_faces weight some) (weigh_faces weight (map (face_in faces) some))
  face-terms weight some all = record {
    own_sources = all-mapped own (λ f. weigh weight (OfFace f)) some ∙ all;
    in_whole = map-twice (face_in faces) (λ f. weigh weight (OfFace f)) some ∙ sym (map-twice (λ f. weigh weight (OfFace f)) (term_in name faces) some);
  }

  pub both-terms : (xs ys us vs : List Term) → AreTermsIn xs us → AreTermsIn ys vs → AreTermsIn (xs ++ ys) (us ++ vs)
  both-terms xs ys us vs h k = record {
    own_sources = list_all-append own xs ys ∙ and_from _ _ h.own_sources k.own_sources;
    in_whole = ap (λ l. l ++ vs) h.in_whole ∙ ap (λ l. map (term_in name faces) xs ++ l) k.in_whole ∙ sym (map-append (term_in name faces) xs ys);
  }

  pub more-terms : (weight p : ℕ) (ys vs : List Term) → point p ≡ true → AreTermsIn ys vs → AreTermsIn (weigh weight (OfPoint p) ∷ ys) (weigh weight (OfPoint (name p)) ∷ vs)
  more-terms weight p ys vs h k = record {
    own_sources = and_from _ _ h k.own_sources;
    in_whole = ap (λ l. weigh weight (OfPoint (name p)) ∷ l) k.in_whole;
  }

  scaled-in : (amount : ℕ) (mask other : Mask) → IsMaskIn mask other → AreTermsIn (scaled_terms amount mask.terms) (scaled_terms amount other.terms)
  scaled-in amount mask other h = record {
    own_sources = all-mapped own (λ t. weigh (amount * t.weight) t.source) mask.terms ∙ h.own_sources;
    in_whole =
        ap (λ (m : Mask). scaled_terms amount m.terms) h.in_whole
        ∙ map-twice (term_in name faces) (λ t. weigh (amount * t.weight) t.source) mask.terms
        ∙ sym (map-twice (λ t. weigh (amount * t.weight) t.source) (term_in name faces) mask.terms);
  }

  sum-in : (terms : List Term) → sum_by (λ t. t.weight) (map (term_in name faces) terms) ≡ sum_by (λ t. t.weight) terms
  sum-in [] = refl
  sum-in (t ∷ terms) =
      sum_by-cons (λ (u : Term). u.weight) (term_in name faces t) (map (term_in name faces) terms)
      ∙ ap (λ n. t.weight + n) (sum-in terms) ∙ sym (sum_by-cons (λ (u : Term). u.weight) t terms)

  module _ (tells : (s u : SourcePoint) → is_own point face s ≡ true → is_own point face u ≡ true → same_source (source_in name faces s) (source_in name faces u) ≡ same_source s u) where
    weight-in : (terms : List Term) (s : SourcePoint) → list_all own terms ≡ true → is_own point face s ≡ true → weight_in (map (term_in name faces) terms) (source_in name faces s) ≡ weight_in terms s
    weight-in terms s all h =
        ap (sum_by (λ t. t.weight)) (filter-mapped own (term_in name faces) (λ t. same_source s t.source) (λ t. same_source (source_in name faces s) t.source) (λ t k. tells s t.source h k) terms all)
        ∙ sum-in (filter (λ t. same_source s t.source) terms)

    joined-in : (terms : List Term) → list_all own terms ≡ true → joined_terms (map (term_in name faces) terms) ≡ map (term_in name faces) (joined_terms terms)
    joined-in terms all =
        let sources = map (λ (t : Term). t.source) terms in
        let there : list_all (is_own point face) sources ≡ true = all-mapped (is_own point face) (λ (t : Term). t.source) terms ∙ all in
        let others = map (term_in name faces) terms in
        let weighed = λ (s : SourcePoint). weigh (weight_in others s) s in
        ap (λ l. map weighed (each_once l)) (map-twice (term_in name faces) (λ (t : Term). t.source) terms ∙ sym (map-twice (λ (t : Term). t.source) (source_in name faces) terms))
        ∙ ap (map weighed) (once-mapped (is_own point face) (source_in name faces) same_source same_source tells sources there)
        ∙ map-twice (source_in name faces) weighed (each_once sources)
        ∙ map-agree (is_own point face) (λ s. weighed (source_in name faces s)) (λ s. weigh (weight_in terms s) (source_in name faces s)) (λ s h. ap (λ n. weigh n (source_in name faces s)) (weight-in terms s all h)) (each_once sources) (all-once same_source (is_own point face) sources there)
        ∙ sym (map-twice (λ s. weigh (weight_in terms s) s) (term_in name faces) (each_once sources))

    own-joined : (terms : List Term) → list_all own terms ≡ true → list_all own (joined_terms terms) ≡ true
    own-joined terms all =
        let sources = map (λ (t : Term). t.source) terms in
        all-mapped own (λ s. weigh (weight_in terms s) s) (each_once sources)
        ∙ all-once same_source (is_own point face) sources (all-mapped (is_own point face) (λ (t : Term). t.source) terms ∙ all)

    -- a mask whose terms name only own sources
    pub mask-of-terms : (terms others : List Term) (q : ℕ) → AreTermsIn terms others → IsMaskIn (mask_of terms q) (mask_of others q)
    mask-of-terms terms others q h = record {
      own_sources = all-filtered (λ t. nat_lt 0 t.weight) own (joined_terms terms) (own-joined terms h.own_sources);
      in_whole =
          ap (λ l. mask_of l q) h.in_whole
          ∙ ap (λ l. mask_with (filter (λ t. nat_lt 0 t.weight) l) q) (joined-in terms h.own_sources)
          ∙ ap (λ l. mask_with l q) (filter-mapped (λ t. true) (term_in name faces) (λ t. nat_lt 0 t.weight) (λ t. nat_lt 0 t.weight) (λ t on. refl) (joined_terms terms) (all-true (joined_terms terms)));
    }
      where
        mask_with : List Term → ℕ → Mask
        mask_with l d = record { terms = l; denominator = d }

    itself : (mask : Mask) → list_all own mask.terms ≡ true → IsMaskIn mask (mask_in name faces mask)
    itself mask h = record { own_sources = h; in_whole = refl }

    blend-own : (w : ℕ × ℕ) (parent child : Mask) → list_all own parent.terms ≡ true → list_all own child.terms ≡ true → IsMaskIn (blend w parent child) (blend w (mask_in name faces parent) (mask_in name faces child))
    blend-own w parent child h k =
        let multiple = lcm_of parent.denominator child.denominator in
        let a = w.0 * (multiple / parent.denominator) in
        let b = (w.1 - w.0) * (multiple / child.denominator) in
        let here = mask_in name faces parent in
        let there = mask_in name faces child in
        mask-of-terms (scaled_terms a parent.terms ++ scaled_terms b child.terms) (scaled_terms a here.terms ++ scaled_terms b there.terms) (w.1 * multiple)
        (both-terms (scaled_terms a parent.terms) (scaled_terms b child.terms) (scaled_terms a here.terms) (scaled_terms b there.terms) (scaled-in a parent here (itself parent h)) (scaled-in b child there (itself child k)))

    pub transition-in : (w : ℕ × ℕ) (parent child in_parent in_child : Mask) → IsMaskIn parent in_parent → IsMaskIn child in_child → IsMaskIn (transition_mask w parent child) (transition_mask w in_parent in_child)
    transition-in w parent child in_parent in_child h k = go (nat_eq w.0 w.1)
      where
        blended : IsMaskIn (blend w parent child) (blend w in_parent in_child)
        blended =
            subst (λ m. IsMaskIn (blend w parent child) (blend w m in_child)) (sym h.in_whole)
            (subst (λ m. IsMaskIn (blend w parent child) (blend w (mask_in name faces parent) m)) (sym k.in_whole) (blend-own w parent child h.own_sources k.own_sources))

        go : (b : Bool) → IsMaskIn (if b then parent else blend w parent child) (if b then in_parent else blend w in_parent in_child)
        go true = h
        go false = blended
