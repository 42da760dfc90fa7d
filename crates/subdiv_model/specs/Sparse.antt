-- Sparse levels: the faces of the uniform levels that are present after some faces are selected for refinement.
-- Source: OpenSubdiv's Vtr layer for sparse refinement; which faces are present is Drillolive's.
use Rattle.std.specs.Prelude.{ℕ, zero, suc, ◌+◌, Bool, not, ◌&&◌, nat_eq, List, [], get_or, length, map, replicate, take}
use Rattle.std.specs.List.{filter, flat_map, list_any, list_all, sum_by, range_with_len, enumerate_from}
use Rattle.subdiv_model.specs.Lists.{places, each_once_by}
use Rattle.subdiv_model.specs.Polygons.{Polygon, polygon_at, is_among, has_corner}
use Rattle.subdiv_model.specs.Level.{Level, is_hole, faces_at}
use Rattle.subdiv_model.specs.Child.{refined_level}
use Rattle.subdiv_model.specs.Feature.{FaceFacts, facts_of}

-- A predicate on faces, as data: for each level the numbers of the faces that meet it, ascending.
abbrev pub FacePredicate : Type 0
FacePredicate = List (List ℕ)

-- the face meets the predicate at this depth
abbrev pub meets : FacePredicate → ℕ → ℕ → Bool
meets predicate depth face = is_among (get_or predicate depth []) face

-- the vertices of all corners, face by face; child faces have the numbers of their corners in this list
abbrev pub corners_of : List Polygon → List ℕ
corners_of polygons = flat_map (λ polygon. polygon) polygons

-- the number in the next level of the child face of a corner, given as a face and a place in it
abbrev pub child_number : List Polygon → ℕ × ℕ → ℕ
child_number polygons place = sum_by length (take place.0 polygons) + place.1

-- the face of each corner
abbrev pub parents_of : List Polygon → List ℕ
parents_of polygons = flat_map (λ face. replicate (length face.1) face.0) (enumerate_from 0 polygons)

-- the child faces of the listed faces
abbrev pub children_of : List Polygon → List ℕ → List ℕ
children_of polygons faces = places (is_among faces) (parents_of polygons)

-- the vertex is on one of the listed faces
abbrev pub is_on : List Polygon → List ℕ → ℕ → Bool
is_on polygons faces v = list_any (λ face. has_corner v (polygon_at polygons face)) faces

-- the listed faces that meet the predicate and are no holes
abbrev pub chosen : Level → FacePredicate → ℕ → List ℕ → List ℕ
chosen level predicate depth faces = filter (λ face. meets predicate depth face && not (is_hole level face)) faces

-- the selected faces at a depth, from all faces of level 0, then from the children of selected faces
abbrev pub selected : Level → FacePredicate → ℕ → List ℕ
selected base predicate zero = chosen base predicate zero (range_with_len 0 (length base.polygons))
selected base predicate (suc depth) =
    chosen (refined_level base (suc depth)) predicate (suc depth) (children_of (refined_level base depth).polygons (selected base predicate depth))

-- the present faces at a depth, ascending: all faces of level 0, then the child faces at vertices of selected faces
abbrev pub present : Level → FacePredicate → ℕ → List ℕ
present base predicate zero = range_with_len 0 (length base.polygons)
present base predicate (suc depth) =
    let polygons = (refined_level base depth).polygons in
    places (is_on polygons (selected base predicate depth)) (corners_of polygons)

-- the polygons of the present faces
abbrev pub present_polygons : Level → FacePredicate → ℕ → List Polygon
present_polygons base predicate depth = map (polygon_at (refined_level base depth).polygons) (present base predicate depth)

-- the present points at a depth: all points of level 0, then the corners of present faces, by first appearance
abbrev pub present_points : Level → FacePredicate → ℕ → List ℕ
present_points base predicate zero = range_with_len 0 base.point_count
present_points base predicate (suc depth) = each_once_by nat_eq (corners_of (present_polygons base predicate (suc depth)))

-- the inner faces at a depth: all faces of level 0, then the children of selected faces
abbrev pub inner : Level → FacePredicate → ℕ → List ℕ
inner base predicate zero = range_with_len 0 (length base.polygons)
inner base predicate (suc depth) = children_of (refined_level base depth).polygons (selected base predicate depth)

-- all faces at a point are present
abbrev pub is_whole : Level → FacePredicate → ℕ → ℕ → Bool
is_whole base predicate depth v = list_all (is_among (present base predicate depth)) (faces_at (refined_level base depth) v)

-- the faces at a depth whose facts pass the test
abbrev pub predicate_of : (FaceFacts → Bool) → Level → ℕ → List ℕ
predicate_of test base depth =
    let level = refined_level base depth in filter (λ face. test (facts_of level depth face)) (range_with_len 0 (length level.polygons))

-- the predicate of a test for a number of levels
abbrev pub predicate_to : (FaceFacts → Bool) → Level → ℕ → FacePredicate
predicate_to test base depth = map (predicate_of test base) (range_with_len 0 depth)
