-- A survey with one child point more.
use Rattle.std.proofs.Common.{◌≡◌, ℕ, ◌+◌, ◌<◌, ◌⊎◌, inl, inr, Bool, true, false, ◌||◌, List, [], ◌∷◌, ◌++◌, length, map, take, get_or, refl, ap, sym, ◌∙◌, subst}
use Rattle.std.specs.List.{All, list_any}
use Rattle.std.proofs.lemmas.List.{take_more, map-append}
use Rattle.std.proofs.lemmas.List.Elements.{All-append, All-from_recursion}
use Rattle.std.proofs.lemmas.List.Folds.{list_any-append}
use Rattle.subdiv_model.specs.Polygons.{polygon_at}
use Rattle.subdiv_model.specs.Level.{Level}
use Rattle.subdiv_model.specs.Mask.{Scheme, OfFace, Mask, has_source, weigh_points, face_mask}
use Rattle.subdiv_model.specs.Refined.{mask_denominator, source_denominator}
use Rattle.subdiv_model.specs.Channel.{transition_overflows_at}
use Rattle.sharpness_laws.proofs.MaskValueLemmas.{joined-mask_of}
use Rattle.level_topology.specs.Topology.{Topology, IsTopology}
use Rattle.level_topology.specs.Child.{PointOrigin, FromVertex, FromFace, FromEdge, same_origin}
use Rattle.level_topology.proofs.ChildLemmas.{same_origin-true}
use Rattle.mask_rules.specs.Masks.{corners_over}
use Rattle.mask_rules.proofs.EdgeLemmas.{face-mask}
use Rattle.child_masks.specs.Masks.{mask_from, masks_from, dens_from}
use Rattle.child_masks.specs.MaskOf.{AreKeptFor}
use Rattle.child_masks.specs.declared.survey.Survey.{Survey}
use Rattle.child_masks.specs.Survey.{within_bound}
use Rattle.child_masks.specs.Found.{ArePointDenominators, AreFaceDenominators, IsAdded, IsSurveyOf}
use Rattle.child_masks.proofs.SourceLemmas.{corner-dens}
use Rattle.child_masks.proofs.AmongLemmas.{sources-same}
use Rattle.child_masks.proofs.AddLemmas.{have-denominators}

-- the mask of a face uses only points
no-face : (points : List ℕ) (g : ℕ) → has_source (weigh_points 1 points) (OfFace g) ≡ false
no-face [] g = refl
no-face (v ∷ points) g = no-face points g

-- the point of a face adds the denominator of the face, and no mark
pub added-face : (t : Topology) (dens faces : List ℕ) (f : ℕ) (old new : Survey) → IsTopology t → ArePointDenominators t.level dens → AreFaceDenominators t.level dens faces
    → f < length t.level.polygons → ((den : ℕ) → 0 < den → get_or faces f 0 ≡ within_bound den → IsAdded den [] old new)
    → IsAdded (mask_denominator (source_denominator t.level dens) (face_mask t.level f)) (face_mask t.level f).terms old new
added-face t dens faces f old new is points known below added =
    let polygon = polygon_at t.level.polygons f in
    let mask = face-mask t.level f (length polygon) is.simple below refl in
    let joined = joined-mask_of (weigh_points 1 polygon) (length polygon) in
    let same = corner-dens t.level f dens in
    let dens_are = have-denominators t dens faces is points known in
    let here = added (mask_denominator (source_denominator t.level dens) (face_mask t.level f))
    (subst (λ n. 0 < n) same (dens_are.positive (OfFace f) (subst (λ n. f < n) (sym known.count) below))) (known.each f below ∙ ap within_bound same) in
    record {
      positive = here.positive;
      faces = here.faces;
      dens = here.dens;
      named = record {
        count = here.named.count;
        each = λ g inside.
            let none : has_source (face_mask t.level f).terms (OfFace g) ≡ false =
            sym (sources-same (corners_over polygon (length polygon)) (face_mask t.level f) (OfFace g) mask joined) ∙ no-face polygon g in
            here.named.each g inside ∙ ap (λ b. get_or old.named.items g false || b) (sym none);
      };
    }

-- one of two holds where either does
either : (a b : Bool) → (a || b) ≡ true → (a ≡ true) ⊎ (b ≡ true)
either true b h = inl refl
either false b h = inr h

-- a test that never holds adds nothing
or-none : (b : Bool) → (b || false) ≡ b
or-none true = refl
or-none false = refl

-- one point more, which is not refused
pub survey-next : (parent : Topology) (scheme : Scheme) (origins : List PointOrigin) (dens : List ℕ) (p : ℕ) (origin : PointOrigin) (old new : Survey)
    → p < length origins → get_or origins p (FromVertex 0) ≡ origin → IsSurveyOf parent scheme (take p origins) dens old
    → IsAdded (mask_denominator (source_denominator parent.level dens) (mask_from parent.level scheme origin)) (mask_from parent.level scheme origin).terms old new
    → ((v : ℕ) → origin ≡ FromVertex v → transition_overflows_at parent.level scheme v ≡ false) → AreKeptFor parent scheme (take (p + 1) origins) new.masks → IsSurveyOf parent scheme (take (p + 1) origins) dens new
survey-next parent scheme origins dens p origin old new inside e so_far added fine kept =
    let level = parent.level in
    let next : take (p + 1) origins ≡ take p origins ++ origin ∷ [] = take_more origins p (FromVertex 0) inside ∙ ap (λ o. take p origins ++ o ∷ []) e in
    subst (λ xs. IsSurveyOf parent scheme xs dens new) (sym next) (record {
      positive = subst (All (λ den. 0 < den)) (sym more) (All-push (dens_from level scheme dens (take p origins)) (value (mask_from level scheme origin)) so_far.positive added.positive);
      found = added.dens ∙ ap (λ xs. xs ++ within_bound (value (mask_from level scheme origin)) ∷ []) so_far.found
          ∙ sym (map-append within_bound (dens_from level scheme dens (take p origins)) (value (mask_from level scheme origin) ∷ [])) ∙ ap (map within_bound) (sym more);
      fine = λ v has.
          elim (either _ _ (sym (list_any-append (same_origin (FromVertex v)) (take p origins) (origin ∷ [])) ∙ has)) [
            | inl h ↦ so_far.fine v h
            | inr h ↦ fine v (sym (same_origin-true (FromVertex v) origin (sym (or-none (same_origin (FromVertex v) origin)) ∙ h)))
          ];
      face = subst (AreFaceDenominators level dens) (sym added.faces) so_far.face;
      named_count = added.named.count ∙ so_far.named_count;
      named = λ f below.
          added.named.each f (subst (λ n. f < n) (sym so_far.named_count) below)
          ∙ ap (λ b. b || has_source (mask_from level scheme origin).terms (OfFace f)) (so_far.named f below)
          ∙ ap (λ b. list_any (names f) (masks_from level scheme (take p origins)) || b) (sym (or-none (has_source (mask_from level scheme origin).terms (OfFace f))))
          ∙ sym (list_any-append (names f) (masks_from level scheme (take p origins)) (mask_from level scheme origin ∷ []))
          ∙ ap (list_any (names f)) (sym (map-append (mask_from level scheme) (take p origins) (origin ∷ [])));
      masks = subst (λ xs. AreKeptFor parent scheme xs new.masks) next kept;
    })
  where
    value : Mask → ℕ
    value mask = mask_denominator (source_denominator parent.level dens) mask

    more : dens_from parent.level scheme dens (take p origins ++ origin ∷ []) ≡ dens_from parent.level scheme dens (take p origins) ++ value (mask_from parent.level scheme origin) ∷ []
    more =
        ap (map value) (map-append (mask_from parent.level scheme) (take p origins) (origin ∷ []))
        ∙ map-append value (masks_from parent.level scheme (take p origins)) (mask_from parent.level scheme origin ∷ [])

    All-push : (xs : List ℕ) (x : ℕ) → All (λ den. 0 < den) xs → 0 < x → All (λ den. 0 < den) (xs ++ x ∷ [])
    All-push xs x h k = All-append (λ den. 0 < den) xs (x ∷ []) h (All-from_recursion (λ den. 0 < den) (x ∷ []) (k, tt))

    names : ℕ → Mask → Bool
    names f mask = has_source mask.terms (OfFace f)

-- no vertex but the point's own is refused there
pub own-vertex : (level : Level) (scheme : Scheme) (v : ℕ) → transition_overflows_at level scheme v ≡ false
    → (w : ℕ) → FromVertex v ≡ FromVertex w → transition_overflows_at level scheme w ≡ false
own-vertex level scheme v h w e = ap (transition_overflows_at level scheme) (same v w e) ∙ h
  where
    same : (v w : ℕ) → FromVertex v ≡ FromVertex w → w ≡ v
    same v w e = cc

-- a point of another part has none to be refused
pub no-vertex-edge : (level : Level) (scheme : Scheme) (e w : ℕ) → FromEdge e ≡ FromVertex w → transition_overflows_at level scheme w ≡ false
no-vertex-edge level scheme e w h = cc

-- nor has that of a face
pub no-vertex-face : (level : Level) (scheme : Scheme) (f w : ℕ) → FromFace f ≡ FromVertex w → transition_overflows_at level scheme w ≡ false
no-vertex-face level scheme f w h = cc
