-- The denominators of the new points of faces.
use Rattle.std.proofs.Common.{◌≡◌, ℕ, ◌+◌, ◌*◌, ◌<◌, ◌≤◌, true, nat_lt, nat_le, List, [], ◌∷◌, ◌++◌, length, map, take, get_or, arith, refl, ap, sym, ◌∙◌, subst}
use Rattle.std.specs.List.{All, AllByRecursion, fold, list_all, range_with_len}
use Rattle.std.proofs.lemmas.Bool.{and_parts, leb-true, ltb-true}
use Rattle.std.proofs.lemmas.List.{get_or_default, length-map, get_or-map}
use Rattle.std.proofs.lemmas.List.Sums.{AllPass-from_list_all}
use Rattle.level_laws.proofs.WellFormedLemmas.{first-of-six}
use Rattle.std.proofs.lemmas.List.FromFn.{map-range_with_len_more, length-map-range_with_len, get_or-map-range_with_len}
use Rattle.std.proofs.lemmas.List.Elements.{recursion_from_All}
use Rattle.subdiv_model.specs.Polygons.{polygon_at, is_distinct}
use Rattle.subdiv_model.specs.Manifold.{is_simple}
use Rattle.subdiv_model.specs.Level.{Level}
use Rattle.subdiv_model.specs.Mask.{OfFace, weigh_points, face_mask}
use Rattle.subdiv_model.specs.Multiples.{lcm_of, lcm_of_all}
use Rattle.subdiv_model.specs.Refined.{corner_denominator, source_denominator}
use Rattle.subdiv_model.specs.Channel.{number_bound}
use Rattle.number_laws.proofs.MultipleLemmas.{lcm_of_all-positive}
use Rattle.mesh_laws.proofs.ClosedLemmas.{all-at}
use Rattle.sharpness_laws.proofs.MaskValueLemmas.{joined-mask_of, same-denominator}
use Rattle.level_topology.specs.Topology.{Topology, IsTopology}
use Rattle.mask_rules.specs.Masks.{IsMask, corners_over}
use Rattle.child_masks.specs.Survey.{within_bound}
use Rattle.child_masks.specs.Found.{ArePointDenominators, AreFaceDenominators}
use Rattle.child_masks.proofs.WithinLemmas.{within-kept}
use Rattle.child_masks.proofs.FoldLemmas.{ArePositive, joined-more, joined-all}

-- the denominators of the corners
abbrev dens_at : List ℕ → List ℕ → List ℕ
dens_at dens points = map (λ v. get_or dens v 1) points

module _ (dens points : List ℕ) (positive : All (λ den. 0 < den) dens) (within : All (λ v. v < length dens) points) where
  -- the denominators of some corners are above 0
  positive-at : (some : List ℕ) → AllByRecursion (λ v. v < length dens) some → ArePositive (dens_at dens some)
  positive-at [] h = tt
  positive-at (v ∷ some) h = (positive v 1 h.0, positive-at some h.1)

  -- the denominators of all corners are above 0
  positive-points : ArePositive (dens_at dens points)
  positive-points = positive-at points (recursion_from_All (λ v. v < length dens) points within)

  -- the least common multiple with one corner more
  pub points-more : (i m r : ℕ) → All (λ den. den ≤ number_bound) dens → i < length points → m ≡ within_bound (fold lcm_of 1 (take i (dens_at dens points)))
      → ((a b : ℕ) → 0 < a → 0 < b → m ≡ within_bound a → get_or dens (get_or points i 0) 0 ≡ within_bound b → r ≡ within_bound (lcm_of a b))
      → r ≡ within_bound (fold lcm_of 1 (take (i + 1) (dens_at dens points)))
  points-more i m r short inside h joined =
      let below : get_or points i 0 < length dens = within i 0 inside in
      let one : get_or dens (get_or points i 0) 1 ≡ get_or dens (get_or points i 0) 0 = get_or_default dens (get_or points i 0) 1 0 below in
      joined-more (dens_at dens points) i m (get_or dens (get_or points i 0) 0) r positive-points
      (subst (λ n. i < n) (sym (length-map points (λ v. get_or dens v 1))) inside) h
      (sym (within-kept (get_or dens (get_or points i 0) 0) (short (get_or points i 0) 0 below))
      ∙ ap within_bound (sym one ∙ sym (get_or-map (λ v. get_or dens v 1) points i 0 1 inside))) joined

  -- with all corners
  pub points-all : (i m : ℕ) → length points ≤ i → m ≡ within_bound (fold lcm_of 1 (take i (dens_at dens points)))
      → m ≡ within_bound (lcm_of_all (dens_at dens points))
  points-all i m past h =
      joined-all (dens_at dens points) i m positive-points (subst (λ n. n ≤ i) (sym (length-map points (λ v. get_or dens v 1))) past) h

  -- the least common multiple of the corners is above 0
  pub positive-lcm : 0 < lcm_of_all (dens_at dens points)
  positive-lcm = lcm_of_all-positive (dens_at dens points) positive-points

-- the corners of a face are points, and there are at least three
module _ (t : Topology) (is : IsTopology t) (f : ℕ) (below : f < length t.level.polygons) where
  -- each corner is a point
  corners-over : list_all (λ v. nat_lt v t.level.point_count) (polygon_at t.level.polygons f) ≡ true
  corners-over =
      all-at (list_all (λ v. nat_lt v t.level.point_count)) t.level.polygons f [] below (first-of-six _ _ _ _ _ _ is.formed)

  -- at each place
  corners-within : All (λ v. v < t.level.point_count) (polygon_at t.level.polygons f)
  corners-within c d inside =
      ltb-true _ _ (AllPass-from_list_all (λ v. nat_lt v t.level.point_count) (polygon_at t.level.polygons f) corners-over c d inside)

  -- each corner has a denominator
  pub face-corners : (dens : List ℕ) → ArePointDenominators t.level dens → All (λ v. v < length dens) (polygon_at t.level.polygons f)
  face-corners dens h = subst (λ n. All (λ v. v < n) (polygon_at t.level.polygons f)) (sym h.count) corners-within

  -- no face has fewer
  pub corners-three : 3 ≤ length (polygon_at t.level.polygons f)
  corners-three =
      let polygon = polygon_at t.level.polygons f in
      leb-true 3 (length polygon) (and_parts (nat_le 3 (length polygon)) (is_distinct polygon) (all-at is_simple t.level.polygons f [] below is.simple)).0

-- the least common multiple of the corners, times their number
pub face-same : (level : Level) (f size : ℕ) (dens : List ℕ) → IsMask (corners_over (polygon_at level.polygons f) size) (face_mask level f)
    → size * lcm_of_all (dens_at dens (polygon_at level.polygons f)) ≡ source_denominator level dens (OfFace f)
face-same level f size dens is =
    let polygon = polygon_at level.polygons f in
    ap (λ xs. size * lcm_of_all xs) (sym (named polygon))
    ∙ same-denominator (corners_over polygon size) (face_mask level f) is.joined (joined-mask_of (weigh_points 1 polygon) (length polygon)) is.same (corner_denominator dens)
  where
    named : (points : List ℕ) → map (λ t. corner_denominator dens t.source) (weigh_points 1 points) ≡ dens_at dens points
    named [] = refl
    named (v ∷ points) = ap (λ xs. get_or dens v 1 ∷ xs) (named points)

-- one face more
pub faces-more : (level : Level) (dens faces new : List ℕ) (f den : ℕ)
    → faces ≡ map (λ g. within_bound (source_denominator level dens (OfFace g))) (range_with_len 0 f)
    → den ≡ within_bound (source_denominator level dens (OfFace f)) → new ≡ faces ++ den ∷ []
    → new ≡ map (λ g. within_bound (source_denominator level dens (OfFace g))) (range_with_len 0 (f + 1))
faces-more level dens faces new f den e here pushed =
    let of : ℕ → ℕ = λ g. within_bound (source_denominator level dens (OfFace g)) in
    pushed ∙ ap (λ xs. xs ++ den ∷ []) e ∙ ap (λ n. map of (range_with_len 0 f) ++ n ∷ []) here
    ∙ sym (map-range_with_len_more of 0 f f (omega arith))

-- a list of the denominators, one for each face
pub face-list : (level : Level) (dens faces : List ℕ) (n : ℕ) → n ≡ length level.polygons
    → faces ≡ map (λ f. within_bound (source_denominator level dens (OfFace f))) (range_with_len 0 n) → AreFaceDenominators level dens faces
face-list level dens faces n count e = record {
  count = ap length e ∙ length-map-range_with_len (λ f. within_bound (source_denominator level dens (OfFace f))) 0 n ∙ count;
  each = λ f below.
      ap (λ xs. get_or xs f 0) e
      ∙ get_or-map-range_with_len (λ g. within_bound (source_denominator level dens (OfFace g))) 0 n f f 0 (subst (λ k. f < k) (sym count) below) (omega arith);
}
