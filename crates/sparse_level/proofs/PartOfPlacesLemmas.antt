-- The child faces of some corners as a part of the next level.
use Rattle.std.proofs.Common.{◌≡◌, ℕ, ◌+◌, ◌*◌, ◌<◌, ◌≤◌, Bool, true, false, nat_eq, nat_lt, List, [], ◌∷◌, length, map, get_or, arith, refl, ap, subst, sym, ◌∙◌}
use Rattle.std.specs.List.{All, AllPairs, flat_map, list_all, position_or_len}
use Rattle.std.proofs.lemmas.Bool.{lt-ltb, ltb-true}
use Rattle.std.proofs.lemmas.List.{get_or_default, length-append}
use Rattle.std.proofs.lemmas.List.Sums.{list_all-from_AllPass, AllPass-from_list_all}
use Rattle.number_laws.proofs.CountLemmas.{all-flat_map}
use Rattle.part_laws.proofs.ListLemmas.{all-once}
use Rattle.subdiv_model.specs.Child.{child_points}
use Rattle.level_topology.specs.Topology.{Topology, IsTopology}
use Rattle.sparse_level.proofs.PointLemmas.{quad-below}
use Rattle.std.proofs.lemmas.List.Folds.{list_any_at}
use Rattle.number_laws.proofs.ListLemmas.{any-flat_map}
use Rattle.mesh_laws.proofs.FanLemmas.{places-at}
use Rattle.subdiv_model.specs.Level.{Level}
use Rattle.subdiv_model.specs.Polygons.{polygon_at, is_among, is_distinct, has_corner}
use Rattle.child_slots.specs.Slots.{quad_at}
use Rattle.child_slots.specs.Parts.{IsPart, part, place_number}
use Rattle.sparse_laws.specs.NextSparse.{next_places}
use Rattle.sparse_level.specs.Places.{marked, points_at, AreWithin}
use Rattle.sparse_level.proofs.NextPointLemmas.{places-within, places-ascend}
use Rattle.sparse_level.proofs.OnceLemmas.{once-among, once-distinct, own-place, own-among, place-of, once-length}

quads-length : (level : Level) (places : List (ℕ × ℕ)) → length (flat_map (λ place. quad_at level.point_count level.polygons place.0 place.1) places) ≤ 4 * length places
quads-length level [] = omega arith
quads-length level (place ∷ places) =
    let four : length (quad_at level.point_count level.polygons place.0 place.1) ≡ 4 = refl in
    omega (arith, quads-length level places, four, length-append (quad_at level.point_count level.polygons place.0 place.1) (flat_map (λ x. quad_at level.point_count level.polygons x.0 x.1) places))

module _ (level : Level) (places : List (ℕ × ℕ)) (points : List ℕ) (are : points ≡ points_at level places) where
  -- a corner of a child face is a point
  pub corner-among : (i n : ℕ) → i < length places → has_corner n (quad_at level.point_count level.polygons (get_or places i (0, 0)).0 (get_or places i (0, 0)).1) ≡ true → is_among points n ≡ true
  corner-among i n h there =
      ap (λ ns. is_among ns n) are ∙ once-among (flat_map (λ place. quad_at level.point_count level.polygons place.0 place.1) places) n
      ∙ any-flat_map (nat_eq n) (λ place. quad_at level.point_count level.polygons place.0 place.1) places
      ∙ list_any_at (λ place. has_corner n (quad_at level.point_count level.polygons place.0 place.1)) places i (0, 0) h there

  pub points-distinct : is_distinct points ≡ true
  points-distinct = ap is_distinct are ∙ once-distinct (flat_map (λ place. quad_at level.point_count level.polygons place.0 place.1) places)

  -- each point has its own number
  pub point-apart : (n m : ℕ) → is_among points n ≡ true → is_among points m ≡ true → position_or_len (nat_eq n) points ≡ position_or_len (nat_eq m) points → n ≡ m
  point-apart n m h k same = sym (place-of points n h).1 ∙ ap (λ i. get_or points i 0) same ∙ (place-of points m k).1

  pub point-there : (i : ℕ) → i < length points → is_among points (get_or points i 0) ≡ true
  point-there i h = own-among points i h

  pub point-own : (i : ℕ) → i < length points → position_or_len (nat_eq (get_or points i 0)) points ≡ i
  point-own i h = own-place points i points-distinct h

  pub point-place : (n : ℕ) → is_among points n ≡ true → (position_or_len (nat_eq n) points < length points) × (get_or points (position_or_len (nat_eq n) points) 0 ≡ n)
  point-place n h = place-of points n h

  -- the child faces of places that ascend are a part
  pub part-of : AreWithin level places → AllPairs (λ a b. place_number level.polygons a < place_number level.polygons b) places → IsPart level.point_count level.polygons (part places (λ n. is_among points n) (λ n. position_or_len (nat_eq n) points))
  part-of within ascend = record {
    within = within;
    ascend = λ i j less inside. ascend i j (0, 0) less inside;
    corners = corner-among;
    apart = point-apart;
  }

  -- no child face has more than four
  pub points-at-most : length points ≤ 4 * length places
  points-at-most =
      let all = flat_map (λ place. quad_at level.point_count level.polygons place.0 place.1) places in
      omega (arith, ap length are, once-length all, quads-length level places)

-- the corners of the child faces are points of the whole next level
pub points-below : (t : Topology) → IsTopology t → (places : List (ℕ × ℕ)) (points : List ℕ) → points ≡ points_at t.level places → AreWithin t.level places → All (λ n. n < child_points t.level.point_count t.level.polygons) points
points-below t is places points are within i d h =
    let count = child_points t.level.point_count t.level.polygons in
    let below : ℕ → Bool = λ n. nat_lt n count in
    let quad : ℕ × ℕ → List ℕ = λ place. quad_at t.level.point_count t.level.polygons place.0 place.1 in
    let each : list_all (λ place. list_all below (quad place)) places ≡ true = list_all-from_AllPass (λ place. list_all below (quad place)) places (λ k e l.
    let inside : (get_or places k e).1 < length (polygon_at t.level.polygons (get_or places k e).0) = subst (λ (place : ℕ × ℕ). place.1 < length (polygon_at t.level.polygons place.0)) (get_or_default places k (0, 0) e l) (within k l) in
    let all = quad-below t is (get_or places k e).0 (get_or places k e).1 count (quad (get_or places k e)) refl inside refl in
    list_all-from_AllPass below (quad (get_or places k e)) (λ j f m. lt-ltb _ _ (all j f m))) in
    let whole : list_all below points ≡ true = ap (list_all below) are ∙ all-once nat_eq below (flat_map quad places) (all-flat_map below quad places ∙ each) in
    ltb-true _ _ (AllPass-from_list_all below points whole i d h)

-- the present child faces are a part of the next level
pub part-of-places : (level : Level) (selected points : List ℕ) → points ≡ points_at level (next_places level.polygons selected)
    → IsPart level.point_count level.polygons (part (next_places level.polygons selected) (λ n. is_among points n) (λ n. position_or_len (nat_eq n) points))
part-of-places level selected points are = part-of level (next_places level.polygons selected) points are (places-within level selected) (places-ascend level.polygons selected)

-- a face is marked where it is among the marked ones
pub marked-among : (marks : List Bool) (f : ℕ) → get_or marks f false ≡ is_among (marked marks) f
marked-among marks f = sym (ap (is_among (marked marks)) (let e : f ≡ 0 + f = omega arith in e) ∙ places-at (λ mark. mark) false refl 0 f marks)

pub inner-marks : (marks : List Bool) (places : List (ℕ × ℕ)) → map (λ place. get_or marks place.0 false) places ≡ map (λ place. is_among (marked marks) place.0) places
inner-marks marks [] = refl
inner-marks marks (place ∷ places) = ap (λ b. b ∷ map (λ x. get_or marks x.0 false) places) (marked-among marks place.0) ∙ ap (λ l. is_among (marked marks) place.0 ∷ l) (inner-marks marks places)
