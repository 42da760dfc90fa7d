-- The addition of a mask to a survey: a defined mask adds the same as an equal mask of the code.
use Rattle.std.proofs.Common.{◌≡◌, ℕ, ◌<◌, true, false, ◌||◌, List, [], ◌∷◌, ◌++◌, length, get_or, arith, refl, ap, sym, ◌∙◌, subst}
use Rattle.std.proofs.lemmas.List.{get_or_default}
use Rattle.subdiv_model.specs.Polygons.{polygon_at}
use Rattle.subdiv_model.specs.Mask.{SourcePoint, OfPoint, OfFace, Term, Mask, has_source}
use Rattle.subdiv_model.specs.Refined.{mask_denominator, source_denominator}
use Rattle.number_laws.proofs.MultipleLemmas.{product-positive}
use Rattle.sharpness_laws.specs.SameWeights.{is_joined}
use Rattle.sharpness_laws.proofs.MaskValueLemmas.{same-denominator}
use Rattle.level_topology.specs.Topology.{Topology, IsTopology}
use Rattle.mask_rules.specs.Masks.{IsMask}
use Rattle.mask_rules.proofs.EdgeLemmas.{face-mask}
use Rattle.child_masks.specs.declared.survey.Survey.{Survey}
use Rattle.child_masks.specs.Survey.{within_bound}
use Rattle.child_masks.specs.Found.{IsAmong, HaveDenominators, ArePointDenominators, AreFaceDenominators, IsAdded}
use Rattle.child_masks.proofs.WithinLemmas.{within-kept}
use Rattle.child_masks.proofs.FaceLemmas.{face-corners, corners-three, positive-lcm, face-same}
use Rattle.child_masks.proofs.MeanLemmas.{mean-positive}
use Rattle.child_masks.proofs.AmongLemmas.{sources-same}

-- the two lists of a survey have the denominators of the sources of a level
pub have-denominators : (t : Topology) (dens faces : List ℕ) → IsTopology t → ArePointDenominators t.level dens → AreFaceDenominators t.level dens faces
    → HaveDenominators (source_denominator t.level dens) dens faces
have-denominators t dens faces is points known = record { positive = positive; point = point; face = face }
  where
    point : (v : ℕ) → v < length dens → get_or dens v 0 ≡ within_bound (get_or dens v 1)
    point v below = get_or_default dens v 0 1 below ∙ sym (within-kept (get_or dens v 1) (points.short v 1 below))

    face : (f : ℕ) → f < length faces → get_or faces f 0 ≡ within_bound (source_denominator t.level dens (OfFace f))
    face f below = known.each f (subst (λ n. f < n) known.count below)

    positive : (source : SourcePoint) → IsAmong (length dens) (length faces) source → 0 < source_denominator t.level dens source
    positive (OfPoint v) below = points.positive v 1 below
    positive (OfFace f) below =
        let inside = subst (λ n. f < n) known.count below in
        let three = corners-three t is f inside in
        let polygon = polygon_at t.level.polygons f in
        subst (λ n. 0 < n) (face-same t.level f (length polygon) dens (face-mask t.level f (length polygon) is.simple inside refl))
        (product-positive (length polygon) _ (omega arith) (positive-lcm dens polygon points.positive (face-corners t is f inside dens points)))

-- equal masks add the same
pub added-mask : (value : SourcePoint → ℕ) (dens faces : List ℕ) (mask defined : Mask) (terms : List Term) (q : ℕ) (old new : Survey)
    → HaveDenominators value dens faces → IsMask mask defined → is_joined defined ≡ true → terms ≡ mask.terms → q ≡ mask.denominator
    → ((f : SourcePoint → ℕ) → HaveDenominators f dens faces → 0 < q → IsAdded (mask_denominator f (record { terms = terms; denominator = q })) terms old new)
    → IsAdded (mask_denominator value defined) defined.terms old new
added-mask value dens faces mask defined terms q old new dens_are is joined e k added =
    let here = added value dens_are (subst (λ n. 0 < n) (sym k) (mean-positive mask is.mean)) in
    let den : mask_denominator value (record { terms = terms; denominator = q }) ≡ mask_denominator value defined =
    ap (λ xs. mask_denominator value (record { terms = xs; denominator = q })) e
    ∙ ap (λ n. mask_denominator value (record { terms = mask.terms; denominator = n })) k
    ∙ same-denominator mask defined is.joined joined is.same value in
    record {
      positive = subst (λ n. 0 < n) den here.positive;
      faces = here.faces;
      dens = here.dens ∙ ap (λ n. old.dens.items ++ within_bound n ∷ []) den;
      named = record {
        count = here.named.count;
        each = λ f below.
            here.named.each f below ∙ ap (λ xs. get_or old.named.items f false || has_source xs (OfFace f)) e
            ∙ ap (λ b. get_or old.named.items f false || b) (sources-same mask defined (OfFace f) is joined);
      };
    }
