-- Values that are refined by means have denominators of at least 1.
use Rattle.std.proofs.Common.{◌≡◌, ℕ, zero, suc, ◌*◌, ◌<◌, true, ℤ, List, [], ◌∷◌, length, map, arith}
use Rattle.std.specs.List.{All, AllByRecursion, list_all}
use Rattle.std.proofs.lemmas.Bool.{and_parts, ltb-true}
use Rattle.std.proofs.lemmas.List.Elements.{All-from_recursion}
use Rattle.subdiv_model.specs.Polygons.{polygon_at}
use Rattle.subdiv_model.specs.Level.{Level}
use Rattle.subdiv_model.specs.Child.{refined_level}
use Rattle.subdiv_model.specs.Mask.{SourcePoint, OfPoint, OfFace, Term, Mask, Scheme, is_mean_of, has_means, mask_of_corners, child_masks}
use Rattle.subdiv_model.specs.Value.{Value}
use Rattle.subdiv_model.specs.Refined.{mask_value, point_value, corner_value, source_value, child_values, refined_values, control_values, over_common, refined_coordinates}
use Rattle.number_laws.proofs.MultipleLemmas.{product-positive}
use Rattle.mask_laws.specs.Laws.{IsManifoldWithSharpBoundary, HasMeansInSteps, value_of_terms}
use Rattle.mask_laws.proofs.MeanLemmas.{means-levels}
use Rattle.continued_laws.specs.Laws.{HasDenominator}

module _ (value : SourcePoint → Value) (each : (source : SourcePoint) → 0 < (value source).den) where
  terms-positive : (q : ℕ) → 0 < q → (terms : List Term) → 0 < (value_of_terms value terms q).den
  terms-positive q some [] = omega arith
  terms-positive q some (term ∷ terms) =
      product-positive (q * (value term.source).den) (value_of_terms value terms q).den
      (product-positive q (value term.source).den some (each term.source)) (terms-positive q some terms)

  -- the denominator is above 0, even for a face without corners, whose mask has no terms
  corners-positive : (corners : List ℕ) → 0 < (mask_value value (mask_of_corners corners)).den
  corners-positive [] = omega arith
  corners-positive (v ∷ corners) = terms-positive (length (v ∷ corners)) (omega arith) (mask_of_corners (v ∷ corners)).terms

  masks-positive : (level : Level) (masks : List Mask) → list_all (is_mean_of level) masks ≡ true
      → AllByRecursion HasDenominator (map (mask_value value) masks)
  masks-positive level [] means = tt
  masks-positive level (mask ∷ masks) means =
      let parts = and_parts (is_mean_of level mask) (list_all (is_mean_of level) masks) means in
      let mean = and_parts _ _ (and_parts _ _ (and_parts _ _ parts.0).0).1 in
      (terms-positive mask.denominator (ltb-true 0 mask.denominator mean.1) mask.terms, masks-positive level masks parts.1)

point-positive : (xs : List Value) (v : ℕ) → AllByRecursion HasDenominator xs → 0 < (point_value xs v).den
point-positive [] v h = omega arith
point-positive (x ∷ xs) zero h = h.0
point-positive (x ∷ xs) (suc v) h = point-positive xs v h.1

module _ (level : Level) (xs : List Value) (h : AllByRecursion HasDenominator xs) where
  corner-positive : (source : SourcePoint) → 0 < (corner_value xs source).den
  corner-positive (OfPoint v) = point-positive xs v h
  corner-positive (OfFace f) = omega arith

  source-positive : (source : SourcePoint) → 0 < (source_value level xs source).den
  source-positive (OfPoint v) = point-positive xs v h
  source-positive (OfFace f) = corners-positive (corner_value xs) corner-positive (polygon_at level.polygons f)

  child-positive : (scheme : Scheme) → has_means level scheme ≡ true → AllByRecursion HasDenominator (child_values level scheme xs)
  child-positive scheme means = masks-positive (source_value level xs) source-positive level (child_masks level scheme) means

controls-positive : (controls : List ℤ) → AllByRecursion HasDenominator (control_values controls)
controls-positive [] = tt
controls-positive (n ∷ controls) = (omega arith, controls-positive controls)

refined-positive : (level : Level) (scheme : Scheme) (controls : List ℤ) (k : ℕ) → HasMeansInSteps level scheme k
    → AllByRecursion HasDenominator (refined_values level scheme (control_values controls) k)
refined-positive level scheme controls zero means = controls-positive controls
refined-positive level scheme controls (suc k) means =
    child-positive (refined_level level k) (refined_values level scheme (control_values controls) k)
    (refined-positive level scheme controls k (λ j below. means j (omega arith))) scheme (means k (omega arith))

over-positive : (common : ℕ) → 0 < common → (xs : List Value) → AllByRecursion HasDenominator xs
    → AllByRecursion HasDenominator (map (over_common common) xs)
over-positive common some [] h = tt
over-positive common some (x ∷ xs) h = (product-positive x.den common h.0 some, over-positive common some xs h.1)

-- at a manifold whose boundary is infinitely sharp all masks are means
pub coordinates-positive : (level : Level) (scheme : Scheme) (common : ℕ) (numbers : List ℤ) (k : ℕ)
    → IsManifoldWithSharpBoundary level → 0 < common → All HasDenominator (refined_coordinates level scheme common numbers k)
coordinates-positive level scheme common numbers k is some =
    All-from_recursion HasDenominator (refined_coordinates level scheme common numbers k)
    (over-positive common some (refined_values level scheme (control_values numbers) k)
    (refined-positive level scheme numbers k (λ j below. means-levels level scheme j is.formed is.manifold is.sharp_boundary)))
