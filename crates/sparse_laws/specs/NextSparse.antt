-- The next sparse level: the child faces at the corners of selected faces.
-- Source: Drillolive.
use Rattle.std.specs.Prelude.{ℕ, suc, ◌≡◌, ◌+◌, ◌-◌, ◌*◌, Bool, nat_eq, nat_lt, List, [], ◌∷◌, length, map, get_or, if◌then◌else◌, IsTrue}
use Rattle.std.specs.List.{filter, flat_map, list_all, range_with_len, enumerate_from}
use Rattle.subdiv_model.specs.Lists.{each_once_by}
use Rattle.subdiv_model.specs.Polygons.{Polygon, polygon_at, is_among, is_over}
use Rattle.subdiv_model.specs.Level.{Level}
use Rattle.subdiv_model.specs.Child.{child_level}
use Rattle.subdiv_model.specs.Sparse.{child_number, corners_of, is_on}
use Rattle.part_laws.specs.Children.{edge_at}
use Rattle.part_laws.specs.LevelParts.{IsLevelPart}
use Rattle.sparse_laws.specs.SparseLevels.{SparseLevel, name_in}

-- all corners, face by face, each as the number of its face and its place in the face
abbrev pub corner_places : List Polygon → List (ℕ × ℕ)
corner_places polygons = flat_map (λ face. map (λ c. (face.0, c)) (range_with_len 0 (length face.1))) (enumerate_from 0 polygons)

-- the vertex of a corner
abbrev pub vertex_at : List Polygon → ℕ × ℕ → ℕ
vertex_at polygons place = get_or (polygon_at polygons place.0) place.1 0

-- the corners whose vertices are on selected faces; their child faces are present
abbrev pub next_places : List Polygon → List ℕ → List (ℕ × ℕ)
next_places polygons selected = filter (λ place. is_on polygons selected (vertex_at polygons place)) (corner_places polygons)

-- the numbers of the present child faces in the next level of all faces
abbrev pub next_children : List Polygon → List ℕ → List ℕ
next_children polygons selected = map (child_number polygons) (next_places polygons selected)

-- the corners of the present child faces, by first appearance, with their numbers in the next level of all faces
abbrev pub next_points : Level → List ℕ → List ℕ
next_points level selected = each_once_by nat_eq (corners_of (map (polygon_at (child_level level).polygons) (next_children level.polygons selected)))

-- the number in the uniform level of the child face of a corner, where each face after level 0 has four children
abbrev pub uniform_child : SparseLevel → ℕ × ℕ → ℕ
uniform_child s place = if nat_eq s.depth 0 then child_number s.level.polygons place else 4 * get_or s.numbers place.0 0 + place.1

-- the vertices that a point of the next level is made from: the vertex, the corners of the face, or the ends of the edge
abbrev pub vertices_of : Level → ℕ → List ℕ
vertices_of level n =
    if nat_lt n level.point_count then n ∷ []
    else if nat_lt (n - level.point_count) (length level.polygons) then polygon_at level.polygons (n - level.point_count)
    else (edge_at level.polygons (n - level.point_count - length level.polygons)).0
    ∷ (edge_at level.polygons (n - level.point_count - length level.polygons)).1 ∷ []

-- a point of the next level is complete: all vertices that it is made from are on selected faces
abbrev pub has_all_faces : Level → List ℕ → ℕ → Bool
has_all_faces level selected n = list_all (is_on level.polygons selected) (vertices_of level n)

-- `next` is the next sparse level after these faces of `s` are selected
pub record IsNextSparse (s : SparseLevel) (selected : List ℕ) (next : SparseLevel) : Type 0 where
  pub depth : next.depth ≡ suc s.depth
  pub points : next.level.point_count ≡ length (next_points s.level selected)
  pub part : IsLevelPart (name_in (next_points s.level selected)) (next_children s.level.polygons selected) next.level (child_level s.level)
  pub numbers : next.numbers ≡ map (uniform_child s) (next_places s.level.polygons selected)
  pub inner : next.inner ≡ map (λ place. is_among selected place.0) (next_places s.level.polygons selected)
  pub complete : next.complete ≡ map (has_all_faces s.level selected) (next_points s.level selected)
  pub over : IsTrue (is_over next.level.point_count next.level.polygons)
