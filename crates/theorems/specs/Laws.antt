-- Texts and meshes, and the last of their tags that names an item, for the laws of tags.
-- Source: Drillolive.
use Rattle.std.specs.Prelude.{◌≡◌, ℕ, Bool, false, nat_eq, ◌||◌, List, ◌∷◌, ◌++◌, length, if◌then◌else◌, IsTrue}
use Rattle.std.specs.List.{list_any, count_by}
use Rattle.subdiv_model.specs.Polygons.{same_edge, polygon_at}
use Rattle.subdiv_model.specs.Sharpness.{Sharpness, Infinite}
use Rattle.subdiv_model.specs.Boundary.{Boundary}
use Rattle.subdiv_model.specs.ObjMesh.{ObjMesh}
use Rattle.subdiv_model.specs.ObjLine.{is_vertex_line}
use Rattle.subdiv_model.specs.ReadObj.{mesh_of_lines, faces_of, boundary_of}
use Rattle.subdiv_model.specs.Level.{Level, edge_sharpness_of, vertex_sharpness_of}
use Rattle.subdiv_model.specs.Base.{tagged_vertex, is_end_corner, is_hidden, base_level}
use Rattle.theorems.specs.TagLines.{is_crease_line_of, is_corner_line_of, is_hole_line_of, is_boundary_line, is_method_line}

-- the last element of a list that passes the test: it passes, and no later element does
pub record LastOf {X : Type 0} (passes : X → Bool) (xs : List X) : Type 0 where
  pub before : List X
  pub element : X
  pub after : List X
  pub split : xs ≡ before ++ (element ∷ after)
  pub is_one : IsTrue (passes element)
  pub none_after : list_any passes after ≡ false

-- Meshes.

-- the crease names the edge, in either direction
abbrev pub is_crease_of : ℕ × ℕ → (ℕ × ℕ) × Sharpness → Bool
is_crease_of edge crease = same_edge edge crease.0

-- the corner tag names the vertex
abbrev pub is_corner_tag_of : ℕ → ℕ × Sharpness → Bool
is_corner_tag_of v tag = nat_eq v tag.0

-- the last crease of the mesh that names the edge
abbrev pub LastCrease : ObjMesh → ℕ × ℕ → Type 0
LastCrease mesh edge = LastOf (is_crease_of edge) mesh.creases

-- the last corner tag of the mesh that names the vertex
abbrev pub LastCornerTag : ObjMesh → ℕ → Type 0
LastCornerTag mesh v = LastOf (is_corner_tag_of v) mesh.corner_tags

-- the boundary mode of the mesh makes the vertex a corner
abbrev pub is_corner_by_mode : ObjMesh → ℕ → Bool
is_corner_by_mode mesh v = is_end_corner mesh.boundary mesh.faces v

-- Texts.

-- the lines of an OBJ text, each as its words, read over a common denominator that is a multiple of `10^least`
pub record Text : Type 0 where
  pub lines : List (List (List ℕ))
  pub least : ℕ

-- the last crease line of the text that names the edge
abbrev pub LastCreaseLine : Text → ℕ × ℕ → Type 0
LastCreaseLine text edge = LastOf (is_crease_line_of edge) text.lines

-- the last corner line of the text that names the vertex
abbrev pub LastCornerLine : Text → ℕ → Type 0
LastCornerLine text v = LastOf (is_corner_line_of v) text.lines

-- the last line of the text that sets a boundary mode
abbrev pub LastBoundaryLine : Text → Type 0
LastBoundaryLine text = LastOf is_boundary_line text.lines

-- the last line of the text that sets a method
abbrev pub LastMethodLine : Text → Type 0
LastMethodLine text = LastOf is_method_line text.lines

-- the mesh of the text
abbrev pub mesh_of : Text → ObjMesh
mesh_of text = mesh_of_lines text.lines text.least

-- level 0 of the text
abbrev pub level_of : Text → Level
level_of text = base_level (mesh_of text)

-- the sharpness of the edge at level 0 of the text
abbrev pub edge_sharpness : Text → ℕ × ℕ → Sharpness
edge_sharpness text edge = edge_sharpness_of (level_of text) edge

-- the sharpness of the vertex at level 0 of the text
abbrev pub vertex_sharpness : Text → ℕ → Sharpness
vertex_sharpness text v = vertex_sharpness_of (level_of text) v

-- the number of vertex lines of the text
abbrev pub vertex_count : Text → ℕ
vertex_count text = count_by is_vertex_line text.lines

-- the number of faces of the text
abbrev pub face_count : Text → ℕ
face_count text = length (faces_of text.lines)

-- the sharpness that the corner lines of the text give the vertex
abbrev pub corner_sharpness : Text → ℕ → Sharpness
corner_sharpness text v = tagged_vertex (mesh_of text).corner_tags v

-- the boundary mode makes the vertex of the text a corner
abbrev pub is_corner_under : Boundary → Text → ℕ → Bool
is_corner_under mode text v = is_end_corner mode (faces_of text.lines) v

-- the boundary mode of the text makes the vertex a corner
abbrev pub is_mode_corner : Text → ℕ → Bool
is_mode_corner text v = is_corner_under (boundary_of text.lines) text v

-- a hole line of the text names the face
abbrev pub is_named_hole : Text → ℕ → Bool
is_named_hole text face = list_any (is_hole_line_of face) text.lines

-- the boundary mode hides the face of the text
abbrev pub is_hidden_under : Boundary → Text → ℕ → Bool
is_hidden_under mode text face = is_hidden mode (faces_of text.lines) (polygon_at (faces_of text.lines) face)

-- the sharpness of the vertex under a boundary mode
abbrev pub sharpness_under : Boundary → Text → ℕ → Sharpness
sharpness_under mode text v = if is_corner_under mode text v then Infinite else corner_sharpness text v

-- the face of the text is a hole under a boundary mode
abbrev pub is_hole_under : Boundary → Text → ℕ → Bool
is_hole_under mode text face = is_named_hole text face || is_hidden_under mode text face
