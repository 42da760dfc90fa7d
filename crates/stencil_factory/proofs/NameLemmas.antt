-- The points that the terms of a mask name, added to the set one after another.
use Rattle.std.proofs.Common.{◌≡◌, ℕ, ◌+◌, ◌-◌, ◌<◌, ◌≤◌, true, false, ◌||◌, nat_eq, nat_lt, List, [], ◌∷◌, length, get_or, take, drop, Result, OnOk, refl, ap, sym, ◌∙◌, subst, arith}
use Rattle.std.specs.List.{All, AllByRecursion, list_all, list_any}
use Rattle.std.proofs.Math.Bool.{or_assoc, or-false}
use Rattle.std.proofs.lemmas.Bool.{ltb-true}
use Rattle.std.proofs.lemmas.Bool.Decides.{nat_tests}
use Rattle.std.proofs.lemmas.List.Elements.{recursion_from_All}
use Rattle.std.proofs.lemmas.List.Sums.{AllPass-from_list_all}
use Rattle.std.proofs.lemmas.List.Sorted.{list_any-IsPermutation, All-permutation, IsPermutation-sym}
use Rattle.subdiv_model.specs.Polygons.{is_among, polygon_at}
use Rattle.subdiv_model.specs.Edges.{edges_of}
use Rattle.subdiv_model.specs.Level.{Level}
use Rattle.subdiv_model.specs.Mask.{Scheme, SourcePoint, OfPoint, OfFace, Mask, weigh_points, is_source_of, face_mask}
use Rattle.subdiv_model.specs.Mask as model
use Rattle.level_laws.proofs.WellFormedLemmas.{first-of-six}
use Rattle.mesh_laws.proofs.ClosedLemmas.{all-at}
use Rattle.sharpness_laws.specs.SameWeights.{is_joined}
use Rattle.sharpness_laws.proofs.TermOrderLemmas.{same_weights-permuted}
use Rattle.sharpness_laws.proofs.MaskValueLemmas.{joined-corners}
use Rattle.level_topology.specs.Topology.{Topology, IsTopology}
use Rattle.level_topology.specs.Child.{PointOrigin, IsOriginWithin}
use Rattle.mask_rules.specs.Masks.{IsMask, corners_over}
use Rattle.mask_rules.specs.View.{source_of, terms_of}
use Rattle.mask_rules.specs.declared.mask.Term.{Term}
use Rattle.mask_rules.proofs.EdgeLemmas.{face-mask}
use Rattle.child_masks.specs.Masks.{mask_from}
use Rattle.child_masks.proofs.AmongLemmas.{part-sources}
use Rattle.stencil_factory.specs.Weights.{names_point, is_named}
use Rattle.stencil_factory.specs.PlaceSet.{Places, with_places}
use Rattle.stencil_factory.specs.Named.{points_of, with_terms, CanName, CanNameTerm, AreNamed}
use Rattle.stencil_factory.proofs.AddedLemmas.{first-and-others, none}
use Rattle.stencil_factory.proofs.PlaceSetLemmas.{count-places, mark-places, among-places}
use Rattle.stencil_factory.proofs.OriginLemmas.{of-point}

-- the first term of some, and the others
module _ (level : Level) (terms : List Term) (some : 1 ≤ length terms) (places : Places) (can : AllByRecursion (CanNameTerm level places.count) (terms_of terms)) where
  abbrev own : Term
  own = get_or terms 0 none

  abbrev later : List Term
  later = take (length terms - 1) (drop 1 terms)

  split : AllByRecursion (CanNameTerm level places.count) (terms_of (own ∷ later))
  split = subst (λ l. AllByRecursion (CanNameTerm level places.count) (terms_of l)) (first-and-others terms none some) can

  pub name-first : CanName level places.count (source_of own.at)
  name-first = split.0

  module _ (new : Places) (added : new ≡ with_places (points_of level (source_of own.at)) places) where
    pub name-can : AllByRecursion (CanNameTerm level new.count) (terms_of later)
    name-can =
        subst (λ n. AllByRecursion (CanNameTerm level n) (terms_of later))
        (sym (ap (λ (p : Places). p.count) added ∙ count-places (points_of level (source_of own.at)) places)) split.1

    pub name-same : with_terms level (terms_of later) new ≡ with_terms level (terms_of terms) places
    name-same = ap (with_terms level (terms_of later)) added ∙ sym (ap (λ l. with_terms level (terms_of l) places) (first-and-others terms none some))

-- all terms
count-terms : (level : Level) (terms : List model.Term) (places : Places) → (with_terms level terms places).count ≡ places.count
count-terms level [] places = refl
count-terms level (t ∷ terms) places = count-terms level terms (with_places (points_of level t.source) places) ∙ count-places (points_of level t.source) places

mark-terms : (level : Level) (terms : List model.Term) (places : Places) → (with_terms level terms places).mark ≡ places.mark
mark-terms level [] places = refl
mark-terms level (t ∷ terms) places = mark-terms level terms (with_places (points_of level t.source) places) ∙ mark-places (points_of level t.source) places

turned : (a b : ℕ) → (nat_eq a b || false) ≡ nat_eq b a
turned a b = grind (arith, nat_tests)

source-among : (level : Level) (v : ℕ) (s : SourcePoint) → is_among (points_of level s) v ≡ names_point level v s
source-among level v (OfPoint u) = turned v u
source-among level v (OfFace f) = refl

among-terms : (level : Level) (v : ℕ) (terms : List model.Term) (places : Places)
    → is_among (with_terms level terms places).members v ≡ (is_among places.members v || list_any (λ t. names_point level v t.source) terms)
among-terms level v [] places = sym (or-false (is_among places.members v))
among-terms level v (t ∷ terms) places =
    let rest = list_any (λ (s : model.Term). names_point level v s.source) terms in
    among-terms level v terms (with_places (points_of level t.source) places)
    ∙ ap (λ b. b || rest) (among-places v (points_of level t.source) places ∙ ap (λ b. is_among places.members v || b) (source-among level v t.source))
    ∙ or_assoc (is_among places.members v) (names_point level v t.source) rest

-- A mask of the code names the points that the defined mask names.
pub names-same : (level : Level) (mask defined : Mask) (v : ℕ) → IsMask mask defined → is_joined defined ≡ true → is_named level mask v ≡ is_named level defined v
names-same level mask defined v is joined =
    list_any-IsPermutation (λ (t : model.Term). names_point level v t.source) mask.terms defined.terms (same_weights-permuted mask defined is.joined joined is.same)

-- An empty set has no member.
pub none-before : (places : Places) (v : ℕ) → places.members ≡ [] → is_among places.members v ≡ false
none-before places v none = ap (λ l. is_among l v) none

pub terms-named : (level : Level) (scheme : Scheme) (origin : PointOrigin) (mask : Mask) → IsMask mask (mask_from level scheme origin) → is_joined (mask_from level scheme origin) ≡ true
    → (terms : List model.Term) → terms ≡ mask.terms → (old new : Places) → old.count ≡ level.point_count → old.members ≡ [] → new ≡ with_terms level terms old → AreNamed level (mask_from level scheme origin) old.mark new
terms-named level scheme origin mask is joined terms terms_are old new count clear added = record {
  count = ap (λ (p : Places). p.count) added ∙ count-terms level terms old ∙ count;
  mark = ap (λ (p : Places). p.mark) added ∙ mark-terms level terms old;
  named = λ v.
      ap (λ (p : Places). is_among p.members v) added ∙ among-terms level v terms old
      ∙ ap (λ b. b || list_any (λ (t : model.Term). names_point level v t.source) terms) (none-before old v clear)
      ∙ ap (list_any (λ (t : model.Term). names_point level v t.source)) terms_are
      ∙ names-same level mask (mask_from level scheme origin) v is joined;
}

-- the corners of a face
corners-named : (level : Level) (v : ℕ) (corners : List ℕ) → is_among corners v ≡ list_any (λ t. names_point level v t.source) (weigh_points 1 corners)
corners-named level v [] = refl
corners-named level v (u ∷ corners) = ap (λ b. b || is_among corners v) (flipped v u) ∙ ap (λ b. nat_eq u v || b) (corners-named level v corners)
  where
    flipped : (a b : ℕ) → nat_eq a b ≡ nat_eq b a
    flipped a b = grind (arith, nat_tests)

module _ (t : Topology) (is : IsTopology t) where
  pub corners-within : (f : ℕ) → f < length t.level.polygons → All (λ v. v < t.level.point_count) (polygon_at t.level.polygons f)
  corners-within f below c d inside =
      let over = all-at (list_all (λ v. nat_lt v t.level.point_count)) t.level.polygons f [] below (first-of-six _ _ _ _ _ _ is.formed) in
      ltb-true _ _ (AllPass-from_list_all (λ v. nat_lt v t.level.point_count) (polygon_at t.level.polygons f) over c d inside)

  pub face-named : (f : ℕ) (corners : List ℕ) (old new : Places) → f < length t.level.polygons → corners ≡ polygon_at t.level.polygons f → old.count ≡ t.level.point_count → old.members ≡ [] → new ≡ with_places corners old
      → AreNamed t.level (face_mask t.level f) old.mark new
  face-named f corners old new below corners_are count clear added =
      let polygon = polygon_at t.level.polygons f in
      record {
        count = ap (λ (p : Places). p.count) added ∙ count-places corners old ∙ count;
        mark = ap (λ (p : Places). p.mark) added ∙ mark-places corners old;
        named = λ v.
            ap (λ (p : Places). is_among p.members v) added ∙ among-places v corners old ∙ ap (λ b. b || is_among corners v) (none-before old v clear)
            ∙ ap (λ l. is_among l v) corners_are ∙ corners-named t.level v polygon
            ∙ names-same t.level (corners_over polygon (length polygon)) (face_mask t.level f) v (face-mask t.level f (length polygon) is.simple below refl) (joined-corners polygon);
      }

  -- the points of a source of the level
  source-can : (s : SourcePoint) → is_source_of t.level s ≡ true → CanName t.level t.level.point_count s
  source-can (OfPoint v) h = ltb-true _ _ h
  source-can (OfFace f) h = let below : f < length t.level.polygons = ltb-true _ _ h in (below, corners-within f below)

  -- The points of all terms of the mask of a vertex, edge or face of the level.
  pub terms-can-name : (scheme : Scheme) (origin : PointOrigin) → IsOriginWithin t.level.point_count (length t.level.polygons) (length (edges_of t.level.polygons)) origin
      → (mask : Mask) → IsMask mask (mask_from t.level scheme origin) → is_joined (mask_from t.level scheme origin) ≡ true → (terms : List model.Term) → terms ≡ mask.terms
      → (count : ℕ) → count ≡ t.level.point_count → AllByRecursion (CanNameTerm t.level count) terms
  terms-can-name scheme origin within mask same joined terms terms_are count count_is =
      let defined = mask_from t.level scheme origin in
      let sources = part-sources t scheme origin is within in
      subst (λ n. AllByRecursion (CanNameTerm t.level n) terms) (sym count_is)
      (subst (AllByRecursion (CanNameTerm t.level t.level.point_count)) (sym terms_are)
      (each mask.terms
      (recursion_from_All (λ s. is_source_of t.level s.source ≡ true) mask.terms
      (All-permutation (λ (s : model.Term). is_source_of t.level s.source ≡ true) defined.terms mask.terms
      (IsPermutation-sym mask.terms defined.terms (same_weights-permuted mask defined same.joined joined same.same))
      (λ i x below. AllPass-from_list_all (λ (s : model.Term). is_source_of t.level s.source) defined.terms sources i x below)))))
    where
      each : (terms : List model.Term) → AllByRecursion (λ s. is_source_of t.level s.source ≡ true) terms → AllByRecursion (CanNameTerm t.level t.level.point_count) terms
      each [] h = tt
      each (s ∷ terms) h = (source-can s.source h.0, each terms h.1)

-- The set that the mask of an origin gives is the set of the child point with that origin.
pub named-since : {E : Type 0} (r : Result (Unit {0}) E) (level : Level) (scheme : Scheme) (origin own : PointOrigin) → origin ≡ own
    → (old start : Places) → start ≡ record { count = old.count; mark = old.mark + 1; members = [] } → (new : Places)
    → OnOk r (AreNamed level (mask_from level scheme origin) start.mark new) → OnOk r (AreNamed level (mask_from level scheme own) (old.mark + 1) new)
named-since r level scheme origin own is old start started new named =
    of-point r (λ mask. AreNamed level mask (old.mark + 1) new) level scheme origin own is
    (subst (λ n. OnOk r (AreNamed level (mask_from level scheme origin) n new)) (ap (λ (p : Places). p.mark) started) named)
