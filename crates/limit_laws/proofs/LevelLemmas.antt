-- Every number of steps leaves the limit of a point as it is.
use Rattle.std.proofs.Common.{◌≡◌, ℕ, zero, suc, ◌+◌, ◌<◌, true, false, nat_eq, ℤ, List, [], ◌∷◌, length, Ok, arith, refl, ap, sym, ◌∙◌, subst}
use Rattle.std.specs.List.{list_all, enumerate_from}
use Rattle.std.proofs.lemmas.Bool.{lt-ltb}
use Rattle.std.proofs.lemmas.Bool.Decides.{nat_tests}
use Rattle.std.proofs.lemmas.List.{length-map}
use Rattle.std.proofs.lemmas.List.FromFn.{get_or-map-range_with_len}
use Rattle.std.proofs.Math.ListN.{get_or-map as get_or-map_any}
use Rattle.subdiv_model.specs.Lists.{last_of}
use Rattle.subdiv_model.specs.Polygons.{Polygon, sides_of, is_over}
use Rattle.subdiv_model.specs.Level.{Level, edge_sharpness_of, vertex_sharpness_of, edges_at, ring_at}
use Rattle.subdiv_model.specs.Child.{child_faces_along, child_faces, child_level, refined_level}
use Rattle.subdiv_model.specs.Feature.{is_infinite}
use Rattle.subdiv_model.specs.Mask.{CatmullClark, Mask, corner_mask, other_end, ends_at}
use Rattle.subdiv_model.specs.Value.{Value, IsSameValue}
use Rattle.subdiv_model.specs.Refined.{mask_value, point_value, refined_values, control_values, source_value, child_values}
use Rattle.subdiv_model.specs.Limit.{has_quads, limit_of, mask_or_itself, limit_mask, limit_masks, limit_values, opposites_at, crease_limit_mask, smooth_limit_mask}
use Rattle.number_laws.proofs.CountLemmas.{all-flat_map}
use Rattle.number_laws.proofs.MultipleLemmas.{product-positive}
use Rattle.mesh_laws.proofs.FaultLemmas.{all-always}
use Rattle.mesh_laws.proofs.Laws.{all-simple, manifold-levels}
use Rattle.level_laws.proofs.WellFormedLemmas.{levels-well-formed, first-of-six}
use Rattle.mask_laws.specs.Laws.{IsManifoldWithSharpBoundary}
use Rattle.mask_laws.proofs.BoundaryLemmas.{IsSharpAtBoundary, sharp-levels}
use Rattle.mask_laws.proofs.MeanLemmas.{means-levels}
use Rattle.limit_laws.proofs.PlaceLemmas.{two-placed}
use Rattle.limit_laws.specs.Laws.{LimitPoint, RefinedLimitPoint, HasLimit, value_in, values_after, limit_after}
use Rattle.limit_laws.proofs.RingRuleLemmas.{count-map, HasLimitKind, corner, crease, smooth, limit-kind}
use Rattle.limit_laws.proofs.LimitMaskLemmas.{corner-limit, crease-limit, smooth-limit, infinite_at, first_end, second_end}
use Rattle.limit_laws.proofs.SameValueLemmas.{same-trans, mask-positive}
use Rattle.limit_laws.proofs.StepLemmas.{ArePositive, source-positive, children-positive, kept-limit}

-- Levels of quads.

-- the next level of any level has only quads
along-quads : (points : ℕ) (polygons : List Polygon) (k : ℕ) (before : ℕ × ℕ) (sides : List (ℕ × ℕ))
    → list_all (λ p. nat_eq (length p) 4) (child_faces_along points polygons k before sides) ≡ true
along-quads points polygons k before [] = refl
along-quads points polygons k before (side ∷ sides) = along-quads points polygons k side sides

pub child-quads : (level : Level) → has_quads (child_level level) ≡ true
child-quads level =
    let parts = λ (face : ℕ × Polygon). child_faces level.point_count level.polygons face.0 face.1 in
    all-flat_map (λ p. nat_eq (length p) 4) parts (enumerate_from 0 level.polygons)
    ∙ all-always (λ face. list_all (λ p. nat_eq (length p) 4) (parts face))
    (λ face. along-quads level.point_count level.polygons face.0 (last_of (0, 0) (sides_of face.1)) (sides_of face.1)) (enumerate_from 0 level.polygons)

-- later levels of a level of quads have only quads
more-quads : (level : Level) (k j : ℕ) → has_quads (refined_level level k) ≡ true → has_quads (refined_level level (k + j)) ≡ true
more-quads level k zero h = let same : k ≡ k + 0 = omega arith in ap (λ n. has_quads (refined_level level n)) (sym same) ∙ h
more-quads level k (suc j) h =
    let same : k + suc j ≡ suc (k + j) = omega arith in
    ap (λ n. has_quads (refined_level level n)) same ∙ child-quads (refined_level level (k + j))

-- Manifolds with a sharp boundary.

module _ (level : Level) (well : IsManifoldWithSharpBoundary level) where
  pub level-over : is_over level.point_count level.polygons ≡ true
  level-over = first-of-six (is_over level.point_count level.polygons) _ _ _ _ _ well.formed

  sharp-manifold : IsSharpAtBoundary level
  sharp-manifold = record {
    over = level-over;
    simple = all-simple level.point_count level.polygons well.manifold;
    distinct = well.manifold.sides_once;
    sharp = well.sharp_boundary;
  }

  -- each level from one on is one
  pub well-levels : (k : ℕ) → IsManifoldWithSharpBoundary (refined_level level k)
  well-levels k = record {
    formed = levels-well-formed level k well.formed;
    manifold = (manifold-levels level k level-over well.manifold).1;
    sharp_boundary = (sharp-levels level k sharp-manifold).sharp;
  }

  -- values over denominators above 0 are refined to values over denominators above 0
  pub refined-positive : (values : List Value) (k : ℕ) → ArePositive values → ArePositive (refined_values level CatmullClark values k)
  refined-positive values zero each = each
  refined-positive values (suc k) each =
      children-positive (refined_level level k) (refined_values level CatmullClark values k)
      (means-levels level CatmullClark k well.formed well.manifold well.sharp_boundary) (refined-positive values k each)

-- a point of a level is one of each further level
point-stays : (level : Level) (k j v : ℕ) → v < (refined_level level k).point_count → v < (refined_level level (k + j)).point_count
point-stays level k zero v h =
    let same : k ≡ k + 0 = omega arith in subst (λ n. v < (refined_level level n).point_count) same h
point-stays level k (suc j) v h =
    let same : suc (k + j) ≡ k + suc j = omega arith in
    let before = point-stays level k j v h in
    subst (λ n. v < (refined_level level n).point_count) same (omega (arith, before))

-- The denominators of limit masks are above 0.

limit-denominator : (level : Level) (v : ℕ) (mask : Mask) → limit_of level v ≡ Ok mask → 0 < mask.denominator
limit-denominator level v mask ok = of_kind (limit-kind (vertex_sharpness_of level v) (ring_at level v) v (ends_at level v) (opposites_at level v) mask ok)
  where
    moved : (own : Mask) → limit_of level v ≡ Ok own → 0 < own.denominator → 0 < mask.denominator
    moved own h k = subst (λ (m : Mask). 0 < m.denominator) (ap (mask_or_itself v) (sym h ∙ ok)) k

    above : (n : ℕ) → nat_eq n 0 ≡ false → 0 < n
    above n h = grind (arith, nat_tests)

    of_kind : HasLimitKind (vertex_sharpness_of level v) (ring_at level v) → 0 < mask.denominator
    of_kind (corner stay) = moved (corner_mask v) (corner-limit level v stay) (omega arith)
    of_kind (crease plain count) =
        let two = two-placed (infinite_at level v) (0, 0) 0 (edges_at level v) (sym (count-map is_infinite (edge_sharpness_of level) (edges_at level v)) ∙ count) in
        moved (crease_limit_mask v (first_end level v plain two) (second_end level v plain two)) (crease-limit level v plain two) (omega arith)
    of_kind (smooth plain none) =
        let n = length (ends_at level v) in
        let some = above (length (ring_at level v)) plain.some in
        let one = length-map (edges_at level v) (edge_sharpness_of level) in
        let other = length-map (edges_at level v) (other_end v) in
        moved (smooth_limit_mask v (ends_at level v) (opposites_at level v)) (smooth-limit level v plain none) (product-positive n (n + 5) (omega (arith, some, one, other)) (omega arith))

pub limit-positive : (level : Level) (values : List Value) (v : ℕ) (mask : Mask) → ArePositive values → limit_of level v ≡ Ok mask → 0 < (value_in level values mask).den
limit-positive level values v mask each is =
    mask-positive (source_value level values) mask (λ s. source-positive level values s each) (limit-denominator level v mask is)

-- Steps.

-- one step, where the level has a limit with this value
step-limit : (level : Level) (values : List Value) (v : ℕ) (x : Value) → IsManifoldWithSharpBoundary level → has_quads level ≡ true → ArePositive values
    → v < level.point_count → HasLimit level values v x → HasLimit (child_level level) (child_values level CatmullClark values) v x
step-limit level values v x well quads each below limit =
    let is = sharp-manifold level well in
    let means = means-levels level CatmullClark 0 well.formed well.manifold well.sharp_boundary in
    let kept = kept-limit level is means quads values each v (lt-ltb v level.point_count below) limit.mask limit.is in
    let later = child_values level CatmullClark values in
    record {
      mask = kept.next;
      is = kept.is;
      same = same-trans x (value_in level values limit.mask) (value_in (child_level level) later kept.next) limit.above_zero.1 limit.same kept.same;
      above_zero = (limit.above_zero.0, limit-positive (child_level level) later v kept.next (children-positive level values means each) kept.is);
    }

own-limit : (level : Level) (values : List Value) (v : ℕ) (mask : Mask) → ArePositive values → limit_of level v ≡ Ok mask → HasLimit level values v (value_in level values mask)
own-limit level values v mask each is =
    let above = limit-positive level values v mask each is in record { mask = mask; is = is; same = refl; above_zero = (above, above) }

-- every number of steps
pub steps-limit : (base : Level) (values : List Value) (k : ℕ) (v : ℕ) (mask : Mask) → IsManifoldWithSharpBoundary base → ArePositive values
    → has_quads (refined_level base k) ≡ true → v < (refined_level base k).point_count → limit_of (refined_level base k) v ≡ Ok mask → (j : ℕ)
    → HasLimit (refined_level base (k + j)) (refined_values base CatmullClark values (k + j)) v (value_in (refined_level base k) (refined_values base CatmullClark values k) mask)
steps-limit base values k v mask well each quads inside is zero =
    let x = value_in (refined_level base k) (refined_values base CatmullClark values k) mask in
    let same : k ≡ k + 0 = omega arith in
    subst (λ n. HasLimit (refined_level base n) (refined_values base CatmullClark values n) v x) same
    (own-limit (refined_level base k) (refined_values base CatmullClark values k) v mask (refined-positive base well values k each) is)
steps-limit base values k v mask well each quads inside is (suc j) =
    let x = value_in (refined_level base k) (refined_values base CatmullClark values k) mask in
    let same : suc (k + j) ≡ k + suc j = omega arith in
    subst (λ n. HasLimit (refined_level base n) (refined_values base CatmullClark values n) v x) same
    (step-limit (refined_level base (k + j)) (refined_values base CatmullClark values (k + j)) v x (well-levels base well (k + j)) (more-quads base k j quads)
    (refined-positive base well values (k + j) each) (point-stays base k j v inside) (steps-limit base values k v mask well each quads inside is j))

-- The laws.

pub one-step : (point : LimitPoint)
    → HasLimit (child_level point.level) (child_values point.level CatmullClark point.values) point.v (value_in point.level point.values point.mask)
one-step point =
    step-limit point.level point.values point.v (value_in point.level point.values point.mask) point.well point.quads point.above_zero point.inside
    (own-limit point.level point.values point.v point.mask point.above_zero point.is)

pub all-steps : (point : LimitPoint) (j : ℕ)
    → HasLimit (refined_level point.level j) (refined_values point.level CatmullClark point.values j) point.v (value_in point.level point.values point.mask)
all-steps point j =
    let same : 0 + j ≡ j = omega arith in
    subst (λ n. HasLimit (refined_level point.level n) (refined_values point.level CatmullClark point.values n) point.v (value_in point.level point.values point.mask)) same
    (steps-limit point.level point.values 0 point.v point.mask point.well point.above_zero point.quads point.inside point.is j)

pub controls-positive : (controls : List ℤ) → ArePositive (control_values controls)
controls-positive [] k d below = absurd (omega arith)
controls-positive (c ∷ controls) zero d below = omega arith
controls-positive (c ∷ controls) (suc k) d below = controls-positive controls k d (omega arith)

pub refined-steps : (point : RefinedLimitPoint) (j : ℕ)
    → HasLimit (refined_level point.base (point.k + j)) (values_after point.base point.controls (point.k + j)) point.v
    (value_in (refined_level point.base point.k) (values_after point.base point.controls point.k) point.mask)
refined-steps point j =
    steps-limit point.base (control_values point.controls) point.k point.v point.mask point.well (controls-positive point.controls) point.quads point.inside point.is j

-- a limit that is listed is that of its mask
listed-limit : (level : Level) (values : List Value) (v : ℕ) (mask : Mask) → v < level.point_count → limit_of level v ≡ Ok mask
    → point_value (limit_values level values) v ≡ value_in level values mask
listed-limit level values v mask below is =
    get_or-map_any (mask_value (source_value level values)) (limit_masks level) v none
    ∙ ap (mask_value (source_value level values)) (get_or-map-range_with_len (limit_mask level) 0 level.point_count v v none below (omega arith))
    ∙ ap (λ limit. mask_value (source_value level values) (mask_or_itself v limit)) is
  where
    none : Mask
    none = record { terms = []; denominator = 1 }

pub listed-steps : (point : RefinedLimitPoint) (j : ℕ)
    → IsSameValue (limit_after point.base point.controls point.k point.v) (limit_after point.base point.controls (point.k + j) point.v)
listed-steps point j =
    let later = refined-steps point j in
    let first = listed-limit (refined_level point.base point.k) (values_after point.base point.controls point.k) point.v point.mask point.inside point.is in
    let second =
    listed-limit (refined_level point.base (point.k + j)) (values_after point.base point.controls (point.k + j)) point.v later.mask
    (point-stays point.base point.k j point.v point.inside) later.is in
    subst (λ x. IsSameValue x (limit_after point.base point.controls (point.k + j) point.v)) (sym first)
    (subst (λ y. IsSameValue (value_in (refined_level point.base point.k) (values_after point.base point.controls point.k) point.mask) y) (sym second) later.same)

pub listed-positive : (point : RefinedLimitPoint) (j : ℕ) → 0 < (limit_after point.base point.controls (point.k + j) point.v).den
listed-positive point j =
    let later = refined-steps point j in
    let is =
    listed-limit (refined_level point.base (point.k + j)) (values_after point.base point.controls (point.k + j)) point.v later.mask
    (point-stays point.base point.k j point.v point.inside) later.is in
    subst (λ x. 0 < x.den) (sym is) later.above_zero.1
