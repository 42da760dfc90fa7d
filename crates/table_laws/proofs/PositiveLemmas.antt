-- The common denominators of the levels of a manifold with a sharp boundary are above 0.
use Rattle.std.proofs.Common.{◌≡◌, ℕ, zero, suc, ◌+◌, ◌<◌, ◌≤◌, ◌&&◌, nat_eq, nat_le, nat_lt, List, [], ◌∷◌, length, map, get_or, arith, true, leb-true, ltb-true}
use Rattle.std.specs.List.{AllByRecursion, list_all, range_with_len}
use Rattle.std.proofs.lemmas.Bool.{and_parts}
use Rattle.subdiv_model.specs.Child.{refined_level}
use Rattle.subdiv_model.specs.Level.{Level}
use Rattle.subdiv_model.specs.Manifold.{is_simple}
use Rattle.subdiv_model.specs.Mask.{Scheme, SourcePoint, OfPoint, OfFace, Term, Mask, total_weight, face_mask, child_masks, is_mean, is_source_of, is_mean_of, has_means}
use Rattle.subdiv_model.specs.Multiples.{lcm_of_all}
use Rattle.subdiv_model.specs.Polygons.{polygon_at, is_distinct}
use Rattle.subdiv_model.specs.Refined.{mask_denominator, corner_denominator, source_denominator, refined_denominators}
use Rattle.number_laws.proofs.MultipleLemmas.{lcm_of_all-positive, product-positive}
use Rattle.mesh_laws.proofs.ClosedLemmas.{all-at}
use Rattle.mask_laws.proofs.BoundaryLemmas.{IsSharpAtBoundary, sharp-levels}

-- the denominator of a mask is above 0 if those of its sources are
mask-positive : (den : SourcePoint → ℕ) (mask : Mask) → 0 < mask.denominator → AllByRecursion (λ t. 0 < den t.source) mask.terms → 0 < mask_denominator den mask
mask-positive den mask some each =
    product-positive mask.denominator (lcm_of_all (map (λ t. den t.source) mask.terms)) some
    (lcm_of_all-positive (map (λ t. den t.source) mask.terms) (dens mask.terms each))
  where
    dens : (terms : List Term) → AllByRecursion (λ t. 0 < den t.source) terms → AllByRecursion (λ n. 0 < n) (map (λ t. den t.source) terms)
    dens [] h = tt
    dens (t ∷ terms) h = (h.0, dens terms h.1)

pub place-positive : (dens : List ℕ) (v : ℕ) → AllByRecursion (λ n. 0 < n) dens → 0 < get_or dens v 1
place-positive [] v all = omega arith
place-positive (n ∷ dens) zero all = all.0
place-positive (n ∷ dens) (suc v) all = place-positive dens v all.1

module _ (level : Level) (simple : list_all is_simple level.polygons ≡ true) (dens : List ℕ) (all : AllByRecursion (λ n. 0 < n) dens) where
  corner-positive : (s : SourcePoint) → 0 < corner_denominator dens s
  corner-positive (OfPoint v) = place-positive dens v all
  corner-positive (OfFace f) = omega arith

  corners-positive : (terms : List Term) → AllByRecursion (λ t. 0 < corner_denominator dens t.source) terms
  corners-positive [] = tt
  corners-positive (t ∷ terms) = (corner-positive t.source, corners-positive terms)

  source-positive : (s : SourcePoint) → is_source_of level s ≡ true → 0 < source_denominator level dens s
  source-positive (OfPoint v) is = place-positive dens v all
  source-positive (OfFace f) is =
      let polygon = polygon_at level.polygons f in
      let one = all-at is_simple level.polygons f [] (ltb-true f (length level.polygons) is) simple in
      let long : 3 ≤ length polygon = leb-true 3 (length polygon) (and_parts (nat_le 3 (length polygon)) (is_distinct polygon) one).0 in
      mask-positive (corner_denominator dens) (face_mask level f) (omega arith) (corners-positive (face_mask level f).terms)

  sources-positive : (terms : List Term) → list_all (λ t. is_source_of level t.source) terms ≡ true
      → AllByRecursion (λ t. 0 < source_denominator level dens t.source) terms
  sources-positive [] h = tt
  sources-positive (t ∷ terms) h =
      let parts = and_parts (is_source_of level t.source) (list_all (λ u. is_source_of level u.source) terms) h in
      (source-positive t.source parts.0, sources-positive terms parts.1)

  masks-positive : (masks : List Mask) → list_all (is_mean_of level) masks ≡ true
      → AllByRecursion (λ n. 0 < n) (map (mask_denominator (source_denominator level dens)) masks)
  masks-positive [] h = tt
  masks-positive (mask ∷ masks) h =
      let parts = and_parts (is_mean_of level mask) (list_all (is_mean_of level) masks) h in
      let mean = and_parts (is_mean mask) (list_all (λ t. is_source_of level t.source) mask.terms) parts.0 in
      let weights = and_parts (list_all (λ t. nat_lt 0 t.weight) mask.terms) (nat_eq (total_weight mask.terms) mask.denominator && nat_lt 0 mask.denominator) mean.0 in
      let some = and_parts (nat_eq (total_weight mask.terms) mask.denominator) (nat_lt 0 mask.denominator) weights.1 in
      (mask-positive (source_denominator level dens) mask (ltb-true 0 mask.denominator some.1) (sources-positive mask.terms mean.1), masks-positive masks parts.1)

ones-positive : (a n : ℕ) → AllByRecursion (λ n. 0 < n) (map (λ v. 1) (range_with_len a n))
ones-positive a zero = tt
ones-positive a (suc n) = (omega arith, ones-positive (a + 1) n)

pub all-positive : (base : Level) (scheme : Scheme) (k : ℕ) → IsSharpAtBoundary base → ((j : ℕ) → has_means (refined_level base j) scheme ≡ true)
    → AllByRecursion (λ n. 0 < n) (refined_denominators base scheme k)
all-positive base scheme zero is means = ones-positive 0 base.point_count
all-positive base scheme (suc k) is means =
    masks-positive (refined_level base k) (sharp-levels base k is).simple (refined_denominators base scheme k) (all-positive base scheme k is means)
    (child_masks (refined_level base k) scheme) (means k)
