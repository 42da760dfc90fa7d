-- The next level of a part, inside the next level of the whole.
use Rattle.std.specs.Prelude.{◌≡◌, ℕ, ◌+◌, ◌-◌, ◌<◌, nat_lt, List, length, map, get_or, take, if◌then◌else◌, IsTrue}
use Rattle.std.specs.List.{flat_map, sum_by, range_with_len}
use Rattle.subdiv_model.specs.Polygons.{Polygon, polygon_at, is_over}
use Rattle.subdiv_model.specs.Edges.{edge_number, edges_of}
use Rattle.subdiv_model.specs.Sharpness.{Chaikin}
use Rattle.subdiv_model.specs.Level.{Level}
use Rattle.subdiv_model.specs.Child.{face_point, edge_point, child_polygons, child_level}
use Rattle.subdiv_model.specs.Sparse.{child_number}
use Rattle.level_laws.specs.Children.{Corner}
use Rattle.part_laws.specs.Parts.{IsWholeAt, renamed, face_in}
use Rattle.part_laws.specs.LevelParts.{IsLevelPart, LevelPart}

-- the numbers of the child faces of a face
abbrev pub children_of : List Polygon → ℕ → List ℕ
children_of polygons f = range_with_len (sum_by length (take f polygons)) (length (polygon_at polygons f))

-- the numbers of the child faces of the listed faces
abbrev pub children_in : List Polygon → List ℕ → List ℕ
children_in polygons faces = flat_map (children_of polygons) faces

-- the edge of this number
abbrev pub edge_at : List Polygon → ℕ → ℕ × ℕ
edge_at polygons n = get_or (edges_of polygons) n (0, 0)

-- the edge in the direction in which the list of edges contains it
abbrev pub as_listed : List Polygon → ℕ × ℕ → ℕ × ℕ
as_listed polygons edge = edge_at polygons (edge_number polygons edge)

-- the name of a point of the next level: the old name, or the new point of its face or edge in the whole
abbrev pub child_name : (ℕ → ℕ) → List ℕ → Level → Level → ℕ → ℕ
child_name name faces part whole n =
    if nat_lt n part.point_count then name n
    else if nat_lt n (part.point_count + length part.polygons) then face_point whole.point_count (face_in faces (n - part.point_count))
    else edge_point whole.point_count whole.polygons (renamed name (edge_at part.polygons (n - (part.point_count + length part.polygons))))

-- the corner of the level from which a face of the next level is made
abbrev pub corner_of_child : Level → ℕ → ℕ
corner_of_child level n = get_or (polygon_at (child_polygons level.point_count level.polygons) n) 0 0

-- The level `next` is a part of the next level of `part`. Under the method `chaikin` the part has all faces of the whole at each
-- corner that has a child in `next`.
pub record IsNextPart (name : ℕ → ℕ) (faces : List ℕ) (part whole : Level) (next_name : ℕ → ℕ) (next_faces : List ℕ) (next : Level) : Type 0 where
  pub is_part : IsLevelPart next_name next_faces next (child_level part)
  pub has_all : part.method ≡ Chaikin → (j : ℕ) → j < length next.polygons
      → IsWholeAt faces whole.polygons (name (corner_of_child part (face_in next_faces j)))

-- The next level of a `LevelPart`.

-- the corners of the part and of the whole are points
pub record IsOverPoints (part : LevelPart) : Type 0 where
  pub level : IsTrue (is_over part.level.point_count part.level.polygons)
  pub whole : IsTrue (is_over part.whole.point_count part.whole.polygons)

-- the names of the points of the next level
abbrev pub name_next : LevelPart → ℕ → ℕ
name_next part n = child_name part.name part.faces part.level part.whole n

-- the numbers that the faces of the next level of the part have in the next level of the whole
abbrev pub faces_next : LevelPart → List ℕ
faces_next part = children_in part.whole.polygons part.faces

-- the number of the child face of a corner, in the next level of the whole
abbrev pub child_in_whole : (part : LevelPart) → Corner part.level.polygons → ℕ
child_in_whole part corner = child_number part.whole.polygons (face_in part.faces corner.face, corner.place)

-- a level that is part of the next level of the part
pub record NextPart (part : LevelPart) : Type 0 where
  pub name : ℕ → ℕ
  pub faces : List ℕ
  pub level : Level
  pub is_next : IsNextPart part.name part.faces part.level part.whole name faces level

-- the names of the points of a next part in the next level of the whole
abbrev pub name_in_whole : {part : LevelPart} → NextPart part → ℕ → ℕ
name_in_whole {part} next n = name_next part (next.name n)

-- the numbers of the faces of a next part in the next level of the whole
abbrev pub faces_in_whole : {part : LevelPart} → NextPart part → List ℕ
faces_in_whole {part} next = map (face_in (faces_next part)) next.faces
