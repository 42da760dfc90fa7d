-- The common denominators of the levels of a manifold with a sharp boundary are all above 0.
use Rattle.std.proofs.Common.{◌≡◌, ℕ, zero, suc, ◌+◌, ◌<◌, ◌≤◌, true, ◌&&◌, nat_eq, nat_le, nat_lt, max, List, [], ◌∷◌, length, map, take, get_or, arith, IsTrue, ap, sym, ◌∙◌}
use Rattle.std.specs.List.{AllByRecursion, fold, list_all, range_with_len, take-map}
use Rattle.std.proofs.lemmas.List.{get_or-map, length-map}
use Rattle.std.proofs.lemmas.List.Sums.{fold_more}
use Rattle.ratio128.specs.declared.valued.Valued.{Valued}
use Rattle.primvar_refine.specs.Rows.{greatest_of}
use Rattle.std.proofs.lemmas.Bool.{and_parts, leb-true, ltb-true}
use Rattle.subdiv_model.specs.Polygons.{polygon_at, is_distinct}
use Rattle.subdiv_model.specs.Manifold.{IsManifold, is_simple}
use Rattle.subdiv_model.specs.Level.{Level, is_well_formed}
use Rattle.subdiv_model.specs.Child.{refined_level}
use Rattle.subdiv_model.specs.Mask.{Scheme, SourcePoint, OfPoint, OfFace, Term, Mask, total_weight, face_mask, child_masks, is_mean, is_source_of, is_mean_of}
use Rattle.subdiv_model.specs.Refined.{mask_denominator, corner_denominator, source_denominator, refined_denominators}
use Rattle.number_laws.proofs.MultipleLemmas.{lcm_of_all-positive, product-positive}
use Rattle.mesh_laws.proofs.ClosedLemmas.{all-at}
use Rattle.mesh_laws.proofs.Laws.{all-simple}
use Rattle.level_laws.proofs.WellFormedLemmas.{first-of-six}
use Rattle.mask_laws.specs.SharpBoundary.{has_sharp_boundary}
use Rattle.mask_laws.proofs.BoundaryLemmas.{IsSharpAtBoundary, sharp-levels}
use Rattle.mask_laws.proofs.MeanLemmas.{means-levels}
use Rattle.subdiv_model.specs.Multiples.{lcm_of_all}

-- the masks of a level 0 are means, and so are the masks of each later level
pub record IsSound (base : Level) : Type 0 where
  pub formed : IsTrue (is_well_formed base)
  pub manifold : IsManifold base.point_count base.polygons
  pub boundary : IsTrue (has_sharp_boundary base)

pub sharp-base : (base : Level) → IsSound base → IsSharpAtBoundary base
sharp-base base is = record {
  over = first-of-six _ _ _ _ _ _ is.formed;
  simple = all-simple base.point_count base.polygons is.manifold;
  distinct = is.manifold.sides_once;
  sharp = is.boundary;
}

-- the denominator of a mask is above 0 if those of its sources are
mask-positive : (den : SourcePoint → ℕ) (mask : Mask) → 0 < mask.denominator → AllByRecursion (λ t. 0 < den t.source) mask.terms → 0 < mask_denominator den mask
mask-positive den mask some each =
    product-positive mask.denominator (lcm_of_all (map (λ t. den t.source) mask.terms)) some (lcm_of_all-positive (map (λ t. den t.source) mask.terms) (dens mask.terms each))
  where
    dens : (terms : List Term) → AllByRecursion (λ t. 0 < den t.source) terms → AllByRecursion (λ n. 0 < n) (map (λ t. den t.source) terms)
    dens [] h = tt
    dens (t ∷ terms) h = (h.0, dens terms h.1)

point-positive : (dens : List ℕ) (v : ℕ) → AllByRecursion (λ n. 0 < n) dens → 0 < get_or dens v 1
point-positive [] v all = omega arith
point-positive (n ∷ dens) zero all = all.0
point-positive (n ∷ dens) (suc v) all = point-positive dens v all.1

module _ (level : Level) (simple : list_all is_simple level.polygons ≡ true) (dens : List ℕ) (all : AllByRecursion (λ n. 0 < n) dens) where
  corner-positive : (s : SourcePoint) → 0 < corner_denominator dens s
  corner-positive (OfPoint v) = point-positive dens v all
  corner-positive (OfFace f) = omega arith

  corners-positive : (terms : List Term) → AllByRecursion (λ t. 0 < corner_denominator dens t.source) terms
  corners-positive [] = tt
  corners-positive (t ∷ terms) = (corner-positive t.source, corners-positive terms)

  source-positive : (s : SourcePoint) → is_source_of level s ≡ true → 0 < source_denominator level dens s
  source-positive (OfPoint v) is = point-positive dens v all
  source-positive (OfFace f) is =
      let polygon = polygon_at level.polygons f in
      let one = all-at is_simple level.polygons f [] (ltb-true f (length level.polygons) is) simple in
      let long : 3 ≤ length polygon = leb-true 3 (length polygon) (and_parts (nat_le 3 (length polygon)) (is_distinct polygon) one).0 in
      mask-positive (corner_denominator dens) (face_mask level f) (omega arith) (corners-positive (face_mask level f).terms)

  sources-positive : (terms : List Term) → list_all (λ t. is_source_of level t.source) terms ≡ true → AllByRecursion (λ t. 0 < source_denominator level dens t.source) terms
  sources-positive [] h = tt
  sources-positive (t ∷ terms) h =
      let parts = and_parts (is_source_of level t.source) (list_all (λ u. is_source_of level u.source) terms) h in
      (source-positive t.source parts.0, sources-positive terms parts.1)

  masks-positive : (masks : List Mask) → list_all (is_mean_of level) masks ≡ true → AllByRecursion (λ n. 0 < n) (map (mask_denominator (source_denominator level dens)) masks)
  masks-positive [] h = tt
  masks-positive (mask ∷ masks) h =
      let parts = and_parts (is_mean_of level mask) (list_all (is_mean_of level) masks) h in
      let mean = and_parts (is_mean mask) (list_all (λ t. is_source_of level t.source) mask.terms) parts.0 in
      let weights = and_parts (list_all (λ t. nat_lt 0 t.weight) mask.terms) (nat_eq (total_weight mask.terms) mask.denominator && nat_lt 0 mask.denominator) mean.0 in
      let some = and_parts (nat_eq (total_weight mask.terms) mask.denominator) (nat_lt 0 mask.denominator) weights.1 in
      (mask-positive (source_denominator level dens) mask (ltb-true 0 mask.denominator some.1) (sources-positive mask.terms mean.1), masks-positive masks parts.1)

ones-positive : (a n : ℕ) → AllByRecursion (λ n. 0 < n) (map (λ v. 1) (range_with_len a n))
ones-positive a zero = tt
ones-positive a (suc n) = (omega arith, ones-positive (a + 1) n)

pub all-positive : (base : Level) (scheme : Scheme) (k : ℕ) → IsSound base → AllByRecursion (λ n. 0 < n) (refined_denominators base scheme k)
all-positive base scheme zero is = ones-positive 0 base.point_count
all-positive base scheme (suc k) is =
    masks-positive (refined_level base k) (sharp-levels base k (sharp-base base is)).simple (refined_denominators base scheme k) (all-positive base scheme k is)
    (child_masks (refined_level base k) scheme) (means-levels base scheme k is.formed is.manifold is.boundary)

-- each number is at most the greatest
fold-above : (numbers : List ℕ) (start : ℕ) → start ≤ fold max start numbers
fold-above [] start = omega arith
fold-above (n ∷ numbers) start = omega (arith, fold-above numbers (max start n))

pub each-below : (numbers : List ℕ) (start : ℕ) → AllByRecursion (λ n. n ≤ fold max start numbers) numbers
each-below [] start = tt
each-below (n ∷ numbers) start = (omega (arith, fold-above numbers (max start n)), each-below numbers (max start n))

-- the greatest after one more value
pub greatest-more : {P : Type 0} (values : List (Valued P)) (i m : ℕ) (v : Valued P) → i < length values → v ≡ get_or values i v → m ≡ greatest_of (map (λ x. x.den) (take i values))
    → max m v.den ≡ greatest_of (map (λ x. x.den) (take (i + 1) values))
greatest-more {P} values i m v inside at is =
    let den : Valued P → ℕ = λ x. x.den in
    ap (λ n. max n v.den) (is ∙ ap greatest_of (sym (take-map den i values)))
    ∙ ap (max (greatest_of (take i (map den values)))) (ap den at ∙ sym (get_or-map den values i v 1 inside))
    ∙ sym (fold_more max 1 (map den values) i 1 (rw length-map inside))
    ∙ ap greatest_of (take-map den (i + 1) values)
