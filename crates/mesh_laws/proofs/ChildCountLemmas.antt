-- How often the sides of a child level occur: as often as a side or an edge of the level.
use Rattle.std.proofs.Common.{◌≡◌, ℕ, ◌+◌, ◌<◌, Bool, true, false, cond, ◌&&◌, nat_eq, nat_lt, List, [], ◌∷◌, length, arith, refl, ◌∙◌}
use Rattle.std.specs.List.{list_any, list_all, count_by}
use Rattle.std.proofs.lemmas.Bool.Decides.{nat_tests}
use Rattle.std.proofs.lemmas.Bool.{and_parts, and_from}
use Rattle.std.proofs.lemmas.List.Folds.{list_all-append}
use Rattle.subdiv_model.specs.Polygons.{Polygon, same_side, same_edge, sides_of, sides_back_to, polygon_at, is_over}
use Rattle.subdiv_model.specs.Edges.{all_sides, edges_of, times_used}
use Rattle.subdiv_model.specs.Child.{edge_point, face_point, child_polygons}
use Rattle.subdiv_model.specs.Edges.{edge_number}
use Rattle.number_laws.proofs.CountLemmas.{one_if}
use Rattle.mesh_laws.proofs.EdgeLemmas.{same-number}
use Rattle.mesh_laws.proofs.ChildLemmas.{count_four, child-count-from, nested-plain, nested-at}

-- both ends are points
abbrev pub is_inside : ℕ → ℕ × ℕ → Bool
is_inside points s = nat_lt s.0 points && nat_lt s.1 points

path-inside : (points first : ℕ) (path : Polygon) → nat_lt first points ≡ true → list_all (λ v. nat_lt v points) path ≡ true → list_all (is_inside points) (sides_back_to first path) ≡ true
path-inside points first [] f h = refl
path-inside points first (v ∷ []) f h = grind (arith, nat_tests)
path-inside points first (v ∷ (w ∷ rest)) f h =
    let parts = and_parts (nat_lt v points) (list_all (λ k. nat_lt k points) (w ∷ rest)) h in
    let next = and_parts (nat_lt w points) (list_all (λ k. nat_lt k points) rest) parts.1 in
    and_from _ _ (and_from _ _ parts.0 next.0) (path-inside points first (w ∷ rest) f parts.1)

-- the sides of polygons over points are inside
pub sides-inside : (points : ℕ) (polygons : List Polygon) → is_over points polygons ≡ true → list_all (is_inside points) (all_sides polygons) ≡ true
sides-inside points [] h = refl
sides-inside points (polygon ∷ polygons) h =
    let parts = and_parts (list_all (λ v. nat_lt v points) polygon) (is_over points polygons) h in
    list_all-append (is_inside points) (sides_of polygon) (all_sides polygons) ∙ and_from _ _ (here polygon parts.0) (sides-inside points polygons parts.1)
  where
    here : (p : Polygon) → list_all (λ v. nat_lt v points) p ≡ true → list_all (is_inside points) (sides_of p) ≡ true
    here [] k = refl
    here (v ∷ rest) k = path-inside points v (v ∷ rest) (and_parts (nat_lt v points) (list_all (λ w. nat_lt w points) rest) k).0 k

module _ (points : ℕ) (polygons : List Polygon) where
  -- the side's edge is one of the level's
  abbrev pub is_named : ℕ × ℕ → Bool
  is_named s = list_any (same_edge s) (edges_of polygons)

  -- the points of two edges are one where the edges are
  pub same-edge-point : (a s : ℕ × ℕ) → is_named a ≡ true → nat_eq (edge_point points polygons a) (edge_point points polygons s) ≡ same_edge a s
  same-edge-point a s named = added (points + length polygons) (edge_number polygons a) (edge_number polygons s) ∙ same-number a s (edges_of polygons) named
    where
      added : (k m n : ℕ) → nat_eq (k + m) (k + n) ≡ nat_eq m n
      added k m n = grind (arith, nat_tests)

  -- a corner is before all new points, and a face point before all edge points
  pub corner-edge : (v : ℕ) (s : ℕ × ℕ) → nat_lt v points ≡ true → nat_eq v (edge_point points polygons s) ≡ false
  corner-edge v s h = grind (arith, nat_tests)

  pub edge-corner : (v : ℕ) (s : ℕ × ℕ) → nat_lt v points ≡ true → nat_eq (edge_point points polygons s) v ≡ false
  edge-corner v s h = grind (arith, nat_tests)

  pub corner-face : (v f : ℕ) → nat_lt v points ≡ true → nat_eq v (face_point points f) ≡ false
  corner-face v f h = grind (arith, nat_tests)

  pub face-corner : (v f : ℕ) → nat_lt v points ≡ true → nat_eq (face_point points f) v ≡ false
  face-corner v f h = grind (arith, nat_tests)

  pub face-edge : (f : ℕ) (s : ℕ × ℕ) → f < length polygons → nat_eq (face_point points f) (edge_point points polygons s) ≡ false
  face-edge f s h = grind (arith, nat_tests)

  pub edge-face : (f : ℕ) (s : ℕ × ℕ) → f < length polygons → nat_eq (edge_point points polygons s) (face_point points f) ≡ false
  edge-face f s h = grind (arith, nat_tests)

  pub face-face : (f g : ℕ) → nat_eq (face_point points f) (face_point points g) ≡ nat_eq f g
  face-face f g = grind (arith, nat_tests)

  -- from a corner to the point of its edge
  four-out : (a : ℕ × ℕ) → is_named a ≡ true → is_inside points a ≡ true → (f : ℕ) (s : ℕ × ℕ) → is_inside points s ≡ true → count_four points polygons (same_side (a.0, edge_point points polygons a)) f s ≡ one_if (same_side a s)
  four-out a named inside f s there =
      let e1 = same-edge-point a s named in
      let e2 : nat_eq a.0 (edge_point points polygons s) ≡ false = corner-edge a.0 s (and_parts (nat_lt a.0 points) (nat_lt a.1 points) inside).0 in
      let e3 : nat_eq a.0 (face_point points f) ≡ false = corner-face a.0 f (and_parts (nat_lt a.0 points) (nat_lt a.1 points) inside).0 in
      rw (e1, e2, e3) (grind (arith, nat_tests))

  -- from the point of an edge to its end
  four-in : (a : ℕ × ℕ) → is_named a ≡ true → is_inside points a ≡ true → (f : ℕ) (s : ℕ × ℕ) → is_inside points s ≡ true → count_four points polygons (same_side (edge_point points polygons a, a.1)) f s ≡ one_if (same_side a s)
  four-in a named inside f s there =
      let e1 = same-edge-point a s named in
      let e2 : nat_eq a.1 (edge_point points polygons s) ≡ false = corner-edge a.1 s (and_parts (nat_lt a.0 points) (nat_lt a.1 points) inside).1 in
      let e3 : nat_eq a.1 (face_point points f) ≡ false = corner-face a.1 f (and_parts (nat_lt a.0 points) (nat_lt a.1 points) inside).1 in
      rw (e1, e2, e3) (grind (arith, nat_tests))

  -- from the point of an edge to the point of a face
  four-toward : (a : ℕ × ℕ) (at : ℕ) → is_named a ≡ true → at < length polygons → (f : ℕ) (s : ℕ × ℕ) → is_inside points s ≡ true → count_four points polygons (same_side (edge_point points polygons a, face_point points at)) f s ≡ cond (nat_eq at f) (one_if (same_edge a s)) 0
  four-toward a at named inside f s there =
      let e1 = same-edge-point a s named in
      let e2 : nat_eq (face_point points at) (edge_point points polygons s) ≡ false = face-edge at s inside in
      let e3 = face-face at f in
      let e4 : nat_eq (face_point points at) s.1 ≡ false = face-corner s.1 at (and_parts (nat_lt s.0 points) (nat_lt s.1 points) there).1 in
      rw (e1, e2, e3, e4) (grind (arith, nat_tests))

  -- from the point of a face to the point of an edge
  four-away : (a : ℕ × ℕ) (at : ℕ) → is_named a ≡ true → at < length polygons → (f : ℕ) (s : ℕ × ℕ) → is_inside points s ≡ true → count_four points polygons (same_side (face_point points at, edge_point points polygons a)) f s ≡ cond (nat_eq at f) (one_if (same_edge a s)) 0
  four-away a at named inside f s there =
      let e1 = same-edge-point a s named in
      let e2 : nat_eq (face_point points at) (edge_point points polygons s) ≡ false = face-edge at s inside in
      let e3 = face-face at f in
      let e4 : nat_eq (face_point points at) s.0 ≡ false = face-corner s.0 at (and_parts (nat_lt s.0 points) (nat_lt s.1 points) there).0 in
      rw (e1, e2, e3, e4) (grind (arith, nat_tests))

-- the sides of the child level, counted by the sides of the level
module _ (points : ℕ) (polygons : List Polygon) (over : is_over points polygons ≡ true) where
  -- from a corner to the point of its edge: as often as the side
  pub times-out : (a : ℕ × ℕ) → is_named points polygons a ≡ true → is_inside points a ≡ true → times_used (child_polygons points polygons) (a.0, edge_point points polygons a) ≡ times_used polygons a
  times-out a named inside =
      child-count-from points polygons (same_side (a.0, edge_point points polygons a)) 0 polygons
      ∙ nested-plain (is_inside points) (count_four points polygons (same_side (a.0, edge_point points polygons a))) (λ s. one_if (same_side a s)) (four-out points polygons a named inside) 0 polygons (sides-inside points polygons over)

  -- from the point of an edge to its end: as often as the side
  pub times-in : (a : ℕ × ℕ) → is_named points polygons a ≡ true → is_inside points a ≡ true → times_used (child_polygons points polygons) (edge_point points polygons a, a.1) ≡ times_used polygons a
  times-in a named inside =
      child-count-from points polygons (same_side (edge_point points polygons a, a.1)) 0 polygons
      ∙ nested-plain (is_inside points) (count_four points polygons (same_side (edge_point points polygons a, a.1))) (λ s. one_if (same_side a s)) (four-in points polygons a named inside) 0 polygons (sides-inside points polygons over)

  -- between the point of an edge and the point of a face: as often as the face has the edge
  pub times-toward : (a : ℕ × ℕ) (at : ℕ) → is_named points polygons a ≡ true → at < length polygons → times_used (child_polygons points polygons) (edge_point points polygons a, face_point points at) ≡ count_by (same_edge a) (sides_of (polygon_at polygons at))
  times-toward a at named inside =
      child-count-from points polygons (same_side (edge_point points polygons a, face_point points at)) 0 polygons
      ∙ nested-at (is_inside points) (count_four points polygons (same_side (edge_point points polygons a, face_point points at))) (λ s. one_if (same_edge a s)) at (four-toward points polygons a at named inside) 0 at polygons (sides-inside points polygons over) (omega arith) inside

  pub times-away : (a : ℕ × ℕ) (at : ℕ) → is_named points polygons a ≡ true → at < length polygons → times_used (child_polygons points polygons) (face_point points at, edge_point points polygons a) ≡ count_by (same_edge a) (sides_of (polygon_at polygons at))
  times-away a at named inside =
      child-count-from points polygons (same_side (face_point points at, edge_point points polygons a)) 0 polygons
      ∙ nested-at (is_inside points) (count_four points polygons (same_side (face_point points at, edge_point points polygons a))) (λ s. one_if (same_edge a s)) at (four-away points polygons a at named inside) 0 at polygons (sides-inside points polygons over) (omega arith) inside
