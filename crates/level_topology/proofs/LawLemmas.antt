-- Laws of a level.
use Rattle.std.proofs.Common.{◌≡◌, ℕ, zero, suc, ◌+◌, ◌<◌, ◌≤◌, true, false, ◌&&◌, ◌||◌, nat_eq, List, [], ◌∷◌, length, map, get_or, arith, refl, ap, sym, ◌∙◌, IsTrue, add-one, if◌then◌else◌}
use Rattle.std.specs.List.{All, list_any, position_or_len}
use Rattle.std.proofs.lemmas.Bool.Decides.{nat_tests}
use Rattle.std.proofs.lemmas.Bool.{and_from, eqb-true, eq-eqb, false_from_ne_true}
use Rattle.std.proofs.lemmas.List.{get_or-map, length-map, get_or_default}
use Rattle.std.proofs.lemmas.List.Sums.{passes_at_first, position_or_len_is}
use Rattle.std.proofs.lemmas.List.Folds.{list_any_at}
use Rattle.std.proofs.lemmas.List.Sorted.{All-permutation, list_any-IsPermutation}
use Rattle.subdiv_model.specs.Polygons.{Polygon, sides_of, same_edge, has_edge, has_corner, is_among, is_distinct, polygon_at}
use Rattle.subdiv_model.specs.Lists.{places_from}
use Rattle.subdiv_model.specs.Edges.{all_sides, edges_of, edge_number, faces_of_edge, faces_of_point, edges_of_point, has_end}
use Rattle.level_laws.proofs.FaceLemmas.{sides_of-length}
use Rattle.number_laws.proofs.ListLemmas.{any-both}
use Rattle.mesh_laws.proofs.SideLemmas.{same_edge-refl}
use Rattle.mesh_laws.proofs.EdgeLemmas.{any-first_named, first_named-once, position-within, position-alike}
use Rattle.mesh_laws.proofs.ClosedLemmas.{any-here}
use Rattle.mesh_laws.proofs.FanLemmas.{places-at, faces-among}
use Rattle.mesh_laws.proofs.FaultLemmas.{edge-faces}
use Rattle.mesh_laws.proofs.ChildPlaceLemmas.{first-within}
use Rattle.level_topology.specs.Topology.{Topology, IsTopology, IsFaceAt, IsEdgeAt, IsFaceOf, edge_at, end_at, face_edges_of, edge_numbers_at, side_at}
use Rattle.level_topology.proofs.PlaceLemmas.{places-item, places-ascend, filter-item, two-count, distinct-permutation, side-there, numbers-places}

-- the edges of a face
pub edges-as-many : (polygons : List Polygon) (f : ℕ) → length (face_edges_of polygons (polygon_at polygons f)) ≡ length (polygon_at polygons f)
edges-as-many polygons f = length-map (sides_of (polygon_at polygons f)) (edge_number polygons) ∙ sides_of-length (polygon_at polygons f)

edge-of-side : (polygons : List Polygon) (f c : ℕ) → c < length (polygon_at polygons f) → get_or (face_edges_of polygons (polygon_at polygons f)) c 0 ≡ edge_number polygons (side_at (polygon_at polygons f) c)
edge-of-side polygons f c h =
    let within : c < length (sides_of (polygon_at polygons f)) = omega (arith, sides_of-length (polygon_at polygons f)) in
    get_or-map (edge_number polygons) (sides_of (polygon_at polygons f)) c (0, 0) 0 within ∙ ap (edge_number polygons) (side-there (polygon_at polygons f) c h)

side-named : (polygons : List Polygon) (f c : ℕ) → c < length (polygon_at polygons f) → list_any (same_edge (side_at (polygon_at polygons f) c)) (edges_of polygons) ≡ true
side-named polygons f c h =
    let side = side_at (polygon_at polygons f) c in
    let within : c < length (sides_of (polygon_at polygons f)) = omega (arith, sides_of-length (polygon_at polygons f)) in
    let there : list_any (same_edge (get_or (sides_of (polygon_at polygons f)) c (0, 0))) (sides_of (polygon_at polygons f)) ≡ true =
    list_any_at (same_edge (get_or (sides_of (polygon_at polygons f)) c (0, 0))) (sides_of (polygon_at polygons f)) c (0, 0) within (same_edge-refl (get_or (sides_of (polygon_at polygons f)) c (0, 0))) in
    let here : list_any (same_edge side) (sides_of (polygon_at polygons f)) ≡ true = ap (λ s. list_any (same_edge s) (sides_of (polygon_at polygons f))) (sym (side-there (polygon_at polygons f) c h)) ∙ there in
    any-first_named side (all_sides polygons) ∙ any-here (same_edge side) polygons f here

pub edge-exists : (polygons : List Polygon) (f c : ℕ) → c < length (polygon_at polygons f) → get_or (face_edges_of polygons (polygon_at polygons f)) c 0 < length (edges_of polygons)
edge-exists polygons f c h = rw (edge-of-side polygons f c h) (position-within (side_at (polygon_at polygons f) c) (edges_of polygons) (side-named polygons f c h))

pub edge-joins : (polygons : List Polygon) (f c : ℕ) → c < length (polygon_at polygons f) → IsTrue (same_edge (side_at (polygon_at polygons f) c) (edge_at polygons (get_or (face_edges_of polygons (polygon_at polygons f)) c 0)))
edge-joins polygons f c h =
    let side = side_at (polygon_at polygons f) c in
    rw (edge-of-side polygons f c h) (passes_at_first (same_edge side) (edges_of polygons) (0, 0) (position-within side (edges_of polygons) (side-named polygons f c h)))

-- the faces at a point
corner-there : (v : ℕ) (polygon : Polygon) → has_corner v polygon ≡ true → (position_or_len (nat_eq v) polygon < length polygon) × (get_or polygon (position_or_len (nat_eq v) polygon) 0 ≡ v)
corner-there v polygon has =
    let within = first-within (nat_eq v) polygon has in
    (within, sym (eqb-true _ _ (passes_at_first (nat_eq v) polygon 0 within)))

face-at : (polygons : List Polygon) (v : ℕ) → All (λ f. IsFaceAt polygons v f) (faces_of_point polygons v)
face-at polygons v k d h =
    let found = places-item (has_corner v) [] 0 polygons k h in
    let number : get_or (faces_of_point polygons v) k d ≡ found.0 = get_or_default (faces_of_point polygons v) k d 0 h ∙ found.2 ∙ nothing found.0 in
    let has : has_corner v (polygon_at polygons (get_or (faces_of_point polygons v) k d)) ≡ true = ap (λ f. has_corner v (polygon_at polygons f)) number ∙ found.3 in
    let corner = corner-there v (polygon_at polygons (get_or (faces_of_point polygons v) k d)) has in
    record { exists = omega (arith, number, found.1); within = corner.0; there = corner.1 }
  where
    nothing : (n : ℕ) → 0 + n ≡ n
    nothing n = omega arith

pub faces-each : (t : Topology) (v i : ℕ) → IsTopology t → v < t.level.point_count → i < length (get_or t.faces_at v []) → IsFaceAt t.level.polygons v (get_or (get_or t.faces_at v []) i 0)
faces-each t v i is inside h = All-permutation (λ f. IsFaceAt t.level.polygons v f) _ _ (is.listed v inside).faces (face-at t.level.polygons v) i 0 h

pub faces-all : (t : Topology) (v f : ℕ) → IsTopology t → v < t.level.point_count → is_among (get_or t.faces_at v []) f ≡ has_corner v (polygon_at t.level.polygons f)
faces-all t v f is inside = sym (list_any-IsPermutation (nat_eq f) _ _ (is.listed v inside).faces) ∙ faces-among t.level.polygons v f

-- numbers that ascend are distinct
pub ascend-distinct : (xs : List ℕ) → ((k : ℕ) → suc k < length xs → get_or xs k 0 < get_or xs (suc k) 0) → is_distinct xs ≡ true
ascend-distinct [] h = refl
ascend-distinct (x ∷ xs) h =
    let behind = ascend-distinct xs (λ k inside. h (suc k) (omega arith)) in
    let none = above x xs (lower x xs h) in
    grind (arith, nat_tests)
  where
    lower : (x : ℕ) (xs : List ℕ) → ((k : ℕ) → suc k < length (x ∷ xs) → get_or (x ∷ xs) k 0 < get_or (x ∷ xs) (suc k) 0) → (k : ℕ) → k < length xs → x < get_or xs k 0
    lower x xs h zero inside = h 0 (omega arith)
    lower x xs h (suc k) inside = omega (arith, lower x xs h k (omega arith), h (suc k) (omega arith))

    above : (x : ℕ) (ys : List ℕ) → ((k : ℕ) → k < length ys → x < get_or ys k 0) → is_among ys x ≡ false
    above x [] h = refl
    above x (y ∷ ys) h = let behind = above x ys (λ k inside. h (suc k) (omega arith)) in let first = h 0 (omega arith) in grind (arith, nat_tests)

pub faces-once : (t : Topology) (v : ℕ) → IsTopology t → v < t.level.point_count → is_distinct (get_or t.faces_at v []) ≡ true
faces-once t v is inside = distinct-permutation _ _ (is.listed v inside).faces (ascend-distinct (faces_of_point t.level.polygons v) (places-ascend (has_corner v) [] 0 t.level.polygons))

-- the faces of an edge
pub edge-face : (polygons : List Polygon) (e i : ℕ) → i < length (faces_of_edge polygons (edge_at polygons e)) → IsFaceOf polygons e (get_or (faces_of_edge polygons (edge_at polygons e)) i 0)
edge-face polygons e i h =
    let found = places-item (has_edge (edge_at polygons e)) [] 0 polygons i h in
    let number : get_or (faces_of_edge polygons (edge_at polygons e)) i 0 ≡ found.0 = omega (arith, found.2) in
    record { exists = omega (arith, number, found.1); has = ap (λ f. has_edge (edge_at polygons e) (polygon_at polygons f)) number ∙ found.3 }

pub edge-order : (polygons : List Polygon) (e i : ℕ) → i + 1 < length (faces_of_edge polygons (edge_at polygons e)) → get_or (faces_of_edge polygons (edge_at polygons e)) i 0 < get_or (faces_of_edge polygons (edge_at polygons e)) (i + 1) 0
edge-order polygons e i h = rw add-one (places-ascend (has_edge (edge_at polygons e)) [] 0 polygons i (omega arith))

pub edge-few : (t : Topology) (e : ℕ) → IsTopology t → e < length (edges_of t.level.polygons) → (1 ≤ length (faces_of_edge t.level.polygons (edge_at t.level.polygons e))) × (length (faces_of_edge t.level.polygons (edge_at t.level.polygons e)) ≤ 2)
edge-few t e is inside = edge-faces t.level.polygons is.simple is.sides_once e (0, 0) inside

pub edge-all : (polygons : List Polygon) (e f : ℕ) → is_among (faces_of_edge polygons (edge_at polygons e)) f ≡ has_edge (edge_at polygons e) (polygon_at polygons f)
edge-all polygons e f =
    let n : f ≡ 0 + f = omega arith in
    ap (is_among (faces_of_edge polygons (edge_at polygons e))) n ∙ places-at (has_edge (edge_at polygons e)) [] refl 0 f polygons

-- the edges at a point
pub own-number : (polygons : List Polygon) (e : ℕ) → e < length (edges_of polygons) → edge_number polygons (edge_at polygons e) ≡ e
own-number polygons e inside = position_or_len_is (same_edge (edge_at polygons e)) (edges_of polygons) e (0, 0) (omega arith) earlier (λ h. same_edge-refl (edge_at polygons e))
  where
    earlier : (k : ℕ) → k < e → same_edge (edge_at polygons e) (get_or (edges_of polygons) k (0, 0)) ≡ false
    earlier k before = false_from_ne_true _ (λ same.
        let two = two-count (same_edge (edge_at polygons e)) (0, 0) (edges_of polygons) k e before inside same (same_edge-refl (edge_at polygons e)) in
        absurd (omega (arith, first_named-once (edge_at polygons e) (all_sides polygons))))

pub either-number : (polygons : List Polygon) (e : ℕ) (pair : ℕ × ℕ) → e < length (edges_of polygons) → IsTrue (same_edge pair (edge_at polygons e)) → edge_number polygons pair ≡ e
either-number polygons e pair inside same = position-alike pair (edge_at polygons e) (edges_of polygons) same ∙ own-number polygons e inside

end-there : (v : ℕ) (edge : ℕ × ℕ) → has_end v edge ≡ true → end_at edge (if nat_eq v edge.0 then 0 else 1) ≡ v
end-there v edge has = grind (arith, nat_tests)

edge-at : (polygons : List Polygon) (v : ℕ) (k : ℕ) → k < length (edges_of_point polygons v) → IsEdgeAt polygons v (edge_number polygons (get_or (edges_of_point polygons v) k (0, 0)))
edge-at polygons v k h =
    let found = filter-item (has_end v) (0, 0) (edges_of polygons) k h in
    let number : edge_number polygons (get_or (edges_of_point polygons v) k (0, 0)) ≡ found.0 = ap (edge_number polygons) found.2 ∙ own-number polygons found.0 found.1 in
    rw number (record { exists = found.1; there = end-there v (edge_at polygons found.0) found.3 })

pub edges-at : (polygons : List Polygon) (v : ℕ) → All (λ e. IsEdgeAt polygons v e) (edge_numbers_at polygons v)
edges-at polygons v k d h =
    let within : k < length (edges_of_point polygons v) = omega (arith, length-map (edges_of_point polygons v) (edge_number polygons)) in
    rw (get_or-map (edge_number polygons) (edges_of_point polygons v) k (0, 0) d within) (edge-at polygons v k within)

pub edges-each : (t : Topology) (v i : ℕ) → IsTopology t → v < t.level.point_count → i < length (get_or t.edges_at v []) → IsEdgeAt t.level.polygons v (get_or (get_or t.edges_at v []) i 0)
edges-each t v i is inside h = All-permutation (λ e. IsEdgeAt t.level.polygons v e) _ _ (is.listed v inside).edges (edges-at t.level.polygons v) i 0 h

pub numbers-at : (polygons : List Polygon) (v : ℕ) → edge_numbers_at polygons v ≡ places_from 0 (has_end v) (edges_of polygons)
numbers-at polygons v = numbers-places (edge_number polygons) (has_end v) (0, 0) 0 (edges_of polygons) (λ j inside. omega (arith, own-number polygons j inside))

pub edges-once : (t : Topology) (v : ℕ) → IsTopology t → v < t.level.point_count → is_distinct (get_or t.edges_at v []) ≡ true
edges-once t v is inside =
    distinct-permutation _ _ (is.listed v inside).edges
    (rw (numbers-at t.level.polygons v) (ascend-distinct (places_from 0 (has_end v) (edges_of t.level.polygons)) (places-ascend (has_end v) (0, 0) 0 (edges_of t.level.polygons))))

among-map : {X : Type 0} (number : X → ℕ) (n : ℕ) (xs : List X) → is_among (map number xs) n ≡ list_any (λ x. nat_eq n (number x)) xs
among-map number n [] = refl
among-map number n (x ∷ xs) = ap (λ b. nat_eq n (number x) || b) (among-map number n xs)

pub edges-all : (t : Topology) (v e : ℕ) → IsTopology t → v < t.level.point_count → e < length (edges_of t.level.polygons) → has_end v (edge_at t.level.polygons e) ≡ true → is_among (get_or t.edges_at v []) e ≡ true
edges-all t v e is inside there has =
    let polygons = t.level.polygons in
    let own = eq-eqb e (edge_number polygons (edge_at polygons e)) (sym (own-number polygons e there)) in
    let here = list_any_at (λ s. has_end v s && nat_eq e (edge_number polygons s)) (edges_of polygons) e (0, 0) there (and_from _ _ has own) in
    sym (list_any-IsPermutation (nat_eq e) _ _ (is.listed v inside).edges)
    ∙ among-map (edge_number polygons) e (edges_of_point polygons v)
    ∙ any-both (has_end v) (λ s. nat_eq e (edge_number polygons s)) (edges_of polygons)
    ∙ here
