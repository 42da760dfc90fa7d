-- Each child face has four distinct corners, each a point of the child level.
use Rattle.std.proofs.Common.{◌≡◌, ℕ, ◌+◌, ◌<◌, ◌≤◌, Bool, true, false, not, ◌&&◌, nat_eq, nat_lt, List, [], ◌∷◌, length, get_or, arith, refl, ap, sym, ◌∙◌}
use Rattle.std.specs.List.{list_any, list_all, count_by}
use Rattle.std.proofs.lemmas.Bool.Decides.{nat_tests}
use Rattle.std.proofs.lemmas.Bool.{and_parts, and_from, false_from_ne_true}
use Rattle.std.proofs.lemmas.List.Folds.{list_all-append}
use Rattle.subdiv_model.specs.Polygons.{Polygon, same_edge, sides_of, sides_back_to, is_over, is_distinct}
use Rattle.subdiv_model.specs.Edges.{all_sides, edges_of}
use Rattle.subdiv_model.specs.Manifold.{is_simple}
use Rattle.subdiv_model.specs.Child.{edge_point, face_point, child_face, child_faces_along, child_faces, child_polygons, child_points}
use Rattle.subdiv_model.specs.Lists.{last_of}
use Rattle.subdiv_model.specs.Edges.{edge_number}
use Rattle.number_laws.proofs.CountLemmas.{one_if, count-cons, count-some}
use Rattle.mesh_laws.proofs.SideLemmas.{same_edge-refl, same_edge-sym, polygon-edge-count}
use Rattle.mesh_laws.proofs.EdgeLemmas.{all-named, position-within}
use Rattle.mesh_laws.proofs.ChildLemmas.{children_from}
use Rattle.mesh_laws.proofs.ChildCountLemmas.{is_inside, is_named, sides-inside, same-edge-point, corner-edge, corner-face, face-edge, edge-face}

-- no side has the edge of the one before it
abbrev pub is_apart : ℕ × ℕ → List (ℕ × ℕ) → Bool
is_apart before [] = true
is_apart before (side ∷ sides) = not (same_edge before side) && is_apart side sides

-- no two sides of a list have one edge where each edge occurs once at most
apart-from_count : (side : ℕ × ℕ) (sides : List (ℕ × ℕ)) → ((e : ℕ × ℕ) → count_by (same_edge e) (side ∷ sides) ≤ 1) → is_apart side sides ≡ true
apart-from_count side [] once = refl
apart-from_count side (next ∷ sides) once =
    let self : one_if (same_edge side side) ≡ 1 = ap one_if (same_edge-refl side) in
    let none : one_if (same_edge side next) ≡ 0 = omega (arith, count-cons (same_edge side) side (next ∷ sides), count-cons (same_edge side) next sides, once side, self) in
    let behind = apart-from_count next sides (λ e. omega (arith, count-cons (same_edge e) side (next ∷ sides), once e)) in
    grind (arith, nat_tests)

last-any : (test : ℕ × ℕ → Bool) (side : ℕ × ℕ) (sides : List (ℕ × ℕ)) → test (last_of side sides) ≡ true → list_any test (side ∷ sides) ≡ true
last-any test side [] h = grind (arith, nat_tests)
last-any test side (next ∷ sides) h = let behind = last-any test next sides h in grind (arith, nat_tests)

pub last-all : (test : ℕ × ℕ → Bool) (side : ℕ × ℕ) (sides : List (ℕ × ℕ)) → list_all test (side ∷ sides) ≡ true → test (last_of side sides) ≡ true
last-all test side [] h = (and_parts (test side) true h).0
last-all test side (next ∷ sides) h = last-all test next sides (and_parts (test side) (list_all test (next ∷ sides)) h).1

-- the last side and the first have two edges
apart-last : (side next : ℕ × ℕ) (sides : List (ℕ × ℕ)) → ((e : ℕ × ℕ) → count_by (same_edge e) (side ∷ (next ∷ sides)) ≤ 1) → same_edge (last_of next sides) side ≡ false
apart-last side next sides once = false_from_ne_true _ (λ same.
    let self : one_if (same_edge side side) ≡ 1 = ap one_if (same_edge-refl side) in
    let there : list_any (same_edge side) (next ∷ sides) ≡ true = last-any (same_edge side) next sides (same_edge-sym side (last_of next sides) ∙ same) in
    let some : 1 ≤ count_by (same_edge side) (next ∷ sides) = count-some (same_edge side) (next ∷ sides) there in
    omega (arith, count-cons (same_edge side) side (next ∷ sides), once side, self))

module _ (points : ℕ) (polygons : List Polygon) where
  abbrev pub is_sound : ℕ × ℕ → Bool
  is_sound s = is_named points polygons s && is_inside points s

  -- a quad whose corners are points of the child level
  abbrev pub is_child : Polygon → Bool
  is_child quad = nat_eq (length quad) 4 && is_distinct quad && list_all (λ v. nat_lt v (child_points points polygons)) quad

  pub edge-point-inside : (s : ℕ × ℕ) → is_named points polygons s ≡ true → nat_lt (edge_point points polygons s) (child_points points polygons) ≡ true
  edge-point-inside s named =
      let within : edge_number polygons s < length (edges_of polygons) = position-within s (edges_of polygons) named in
      grind (arith, nat_tests)

  pub corner-inside : (v : ℕ) → nat_lt v points ≡ true → nat_lt v (child_points points polygons) ≡ true
  corner-inside v h = grind (arith, nat_tests)

  pub face-inside : (f : ℕ) → f < length polygons → nat_lt (face_point points f) (child_points points polygons) ≡ true
  face-inside f h = grind (arith, nat_tests)

  one-child : (face : ℕ) (before after : ℕ × ℕ) → face < length polygons → is_sound before ≡ true → is_sound after ≡ true → same_edge before after ≡ false → is_child (child_face points polygons face before after) ≡ true
  one-child face before after inside b a apart =
      let bs = and_parts (is_named points polygons before) (is_inside points before) b in
      let as' = and_parts (is_named points polygons after) (is_inside points after) a in
      let v = (and_parts (nat_lt after.0 points) (nat_lt after.1 points) as'.1).0 in
      let e1 : nat_eq after.0 (edge_point points polygons after) ≡ false = corner-edge points polygons after.0 after v in
      let e2 : nat_eq after.0 (face_point points face) ≡ false = corner-face points polygons after.0 face v in
      let e3 : nat_eq after.0 (edge_point points polygons before) ≡ false = corner-edge points polygons after.0 before v in
      let e4 : nat_eq (edge_point points polygons after) (face_point points face) ≡ false = edge-face points polygons face after inside in
      let e5 : nat_eq (edge_point points polygons after) (edge_point points polygons before) ≡ false = same-edge-point points polygons after before as'.0 ∙ same_edge-sym after before ∙ apart in
      let e6 : nat_eq (face_point points face) (edge_point points polygons before) ≡ false = face-edge points polygons face before inside in
      let i1 = corner-inside after.0 v in
      let i2 = edge-point-inside after as'.0 in
      let i3 = face-inside face inside in
      let i4 = edge-point-inside before bs.0 in
      rw (e1, e2, e3, e4, e5, e6, i1, i2, i3, i4) refl

  along-child : (face : ℕ) (before : ℕ × ℕ) (sides : List (ℕ × ℕ)) → face < length polygons → is_sound before ≡ true → list_all is_sound sides ≡ true → is_apart before sides ≡ true → list_all is_child (child_faces_along points polygons face before sides) ≡ true
  along-child face before [] inside b all apart = refl
  along-child face before (side ∷ sides) inside b all apart =
      let parts = and_parts (is_sound side) (list_all is_sound sides) all in
      let aparts = and_parts (not (same_edge before side)) (is_apart side sides) apart in
      let none : same_edge before side ≡ false = grind (arith, nat_tests) in
      and_from _ _ (one-child face before side inside b parts.0 none) (along-child face side sides inside parts.0 parts.1 aparts.1)

  face-child : (face : ℕ) (polygon : Polygon) → face < length polygons → is_simple polygon ≡ true → list_all is_sound (sides_of polygon) ≡ true → list_all is_child (child_faces points polygons face polygon) ≡ true
  face-child face [] inside simple all = refl
  face-child face (v ∷ []) inside simple all = cc
  face-child face (v ∷ (w ∷ rest)) inside simple all =
      let first : ℕ × ℕ = (v, w) in
      let next : ℕ × ℕ = (w, get_or rest 0 v) in
      let sides = sides_back_to v rest in
      let once : (e : ℕ × ℕ) → count_by (same_edge e) (first ∷ (next ∷ sides)) ≤ 1 = λ e. polygon-edge-count (v ∷ (w ∷ rest)) e simple in
      let last = last_of next sides in
      let sound : is_sound last ≡ true = last-all is_sound first (next ∷ sides) all in
      let apart : is_apart last (first ∷ (next ∷ sides)) ≡ true = and_from _ _ (ap not (apart-last first next sides once)) (apart-from_count first (next ∷ sides) once) in
      along-child face last (first ∷ (next ∷ sides)) inside sound all apart

  children-child : (place : ℕ) (some : List Polygon) → place + length some ≤ length polygons → list_all is_simple some ≡ true → list_all is_sound (all_sides some) ≡ true → list_all is_child (children_from points polygons place some) ≡ true
  children-child place [] within simple all = refl
  children-child place (polygon ∷ some) within simple all =
      let parts = and_parts (list_all is_sound (sides_of polygon)) (list_all is_sound (all_sides some)) (sym (list_all-append is_sound (sides_of polygon) (all_sides some)) ∙ all) in
      let simples = and_parts (is_simple polygon) (list_all is_simple some) simple in
      list_all-append is_child (child_faces points polygons place polygon) (children_from points polygons (place + 1) some)
      ∙ and_from _ _ (face-child place polygon (omega arith) simples.0 parts.0) (children-child (place + 1) some (omega arith) simples.1 parts.1)

pub both-all : (p q : ℕ × ℕ → Bool) (xs : List (ℕ × ℕ)) → list_all p xs ≡ true → list_all q xs ≡ true → list_all (λ x. p x && q x) xs ≡ true
both-all p q [] h k = refl
both-all p q (x ∷ xs) h k =
    let ps = and_parts (p x) (list_all p xs) h in
    let qs = and_parts (q x) (list_all q xs) k in
    and_from _ _ (and_from _ _ ps.0 qs.0) (both-all p q xs ps.1 qs.1)

-- the sides of a level name its edges, and have points at both ends
pub sound-sides : (points : ℕ) (polygons : List Polygon) → is_over points polygons ≡ true → list_all (is_sound points polygons) (all_sides polygons) ≡ true
sound-sides points polygons over = both-all (is_named points polygons) (is_inside points) (all_sides polygons) (all-named (all_sides polygons)) (sides-inside points polygons over)

pub all-child : (points : ℕ) (polygons : List Polygon) → is_over points polygons ≡ true → list_all is_simple polygons ≡ true → list_all (is_child points polygons) (child_polygons points polygons) ≡ true
all-child points polygons over simple = children-child points polygons 0 polygons (omega arith) simple (sound-sides points polygons over)

-- child faces are simple, and over the points of the child level
pub child-simple : (points : ℕ) (polygons quads : List Polygon) → list_all (is_child points polygons) quads ≡ true → list_all is_simple quads ≡ true
child-simple points polygons [] h = refl
child-simple points polygons (quad ∷ quads) h =
    let parts = and_parts (is_child points polygons quad) (list_all (is_child points polygons) quads) h in
    let here : is_simple quad ≡ true = grind (arith, nat_tests) in
    and_from _ _ here (child-simple points polygons quads parts.1)

pub child-over : (points : ℕ) (polygons quads : List Polygon) → list_all (is_child points polygons) quads ≡ true → is_over (child_points points polygons) quads ≡ true
child-over points polygons [] h = refl
child-over points polygons (quad ∷ quads) h =
    let parts = and_parts (is_child points polygons quad) (list_all (is_child points polygons) quads) h in
    let inside = and_parts (nat_eq (length quad) 4 && is_distinct quad) (list_all (λ v. nat_lt v (child_points points polygons)) quad) parts.0 in
    and_from _ _ inside.1 (child-over points polygons quads parts.1)
