-- The lines of the text of a mesh, each as its keyword and words.
-- Source: Drillolive.
use Rattle.std.specs.Prelude.{ℕ, ◌+◌, ◌≡◌, Bool, List, [], ◌∷◌, ◌++◌, length, map, zip, codes, None}
use Rattle.std.specs.List.{filter, range_with_len}
use Rattle.subdiv_model.specs.Polygons.{Polygon}
use Rattle.subdiv_model.specs.Edges.{edges_of}
use Rattle.subdiv_model.specs.Sharpness.{Method, Normal, Chaikin, is_sharp}
use Rattle.subdiv_model.specs.Level.{Level, edge_sharpness_of, vertex_sharpness_of, is_hole}
use Rattle.subdiv_model.specs.Value.{Value}
use Rattle.subdiv_model.specs.Refined.{Point}
use Rattle.subdiv_model.specs.NumberText.{number_text, value_text}
use Rattle.subdiv_model.specs.ReadObj.{obj_lines}
use Rattle.subdiv_model.specs.Text.{textured_mesh_text, point_words, corner_text, shown, sharpness_text, is_written_crease}
use Rattle.text_laws.specs.Laws.{Line, words_of}

-- the line of a point
abbrev pub vertex_line : Point → Line
vertex_line point = (codes "v", point_words point)

-- the line of a texture value
abbrev pub texture_value_line : Value × Value → Line
texture_value_line value = (codes "vt", value_text value.0 ∷ value_text value.1 ∷ [])

-- the line of a face
abbrev pub polygon_line : Polygon → Line
polygon_line polygon = (codes "f", map (λ corner. number_text (corner + 1)) polygon)

-- the line of a face with texture points
abbrev pub textured_polygon_line : Polygon × Polygon → Line
textured_polygon_line face = (codes "f", map corner_text (zip face.0 face.1))

-- the line of a tag, from its name, its counts and its values
abbrev pub named_line : List ℕ → List ℕ → List (List ℕ) → Line
named_line name counts values = (codes "t", name ∷ counts ∷ values)

-- the tag line of the boundary mode
abbrev pub mode_tag : Line
mode_tag = named_line (codes "interpolateboundary") (codes "1/0/0") (codes "2" ∷ [])

-- the tag line of the method, none for `normal`
abbrev pub method_tags : Method → List Line
method_tags Normal = []
method_tags Chaikin = named_line (codes "creasemethod") (codes "0/0/1") (codes "chaikin" ∷ []) ∷ []

-- the tag line of a crease
abbrev pub crease_tag : Level → ℕ × ℕ → Line
crease_tag level edge =
    named_line (codes "crease") (codes "2/1/0") (number_text edge.0 ∷ number_text edge.1 ∷ sharpness_text (edge_sharpness_of level edge) ∷ [])

-- the tag line of a corner
abbrev pub vertex_tag : Level → ℕ → Line
vertex_tag level v = named_line (codes "corner") (codes "1/1/0") (number_text v ∷ sharpness_text (vertex_sharpness_of level v) ∷ [])

-- the tag line of a hole
abbrev pub hole_tag : ℕ → Line
hole_tag face = named_line (codes "hole") (codes "1/0/0") (number_text face ∷ [])

-- the edges that the tags of a level list
abbrev pub written_edges : Level → List (ℕ × ℕ)
written_edges level = filter (is_written_crease level) (edges_of level.polygons)

-- the vertices that the tags of a level list
abbrev pub written_vertices : Level → List ℕ
written_vertices level = filter (λ v. is_sharp (vertex_sharpness_of level v)) (range_with_len 0 level.point_count)

-- the faces that the tags of a level list
abbrev pub written_holes : Level → List ℕ
written_holes level = filter (is_hole level) (range_with_len 0 (length level.polygons))

-- the lines of the tags of a level
abbrev pub tag_lines : Level → List Line
tag_lines level =
    (mode_tag ∷ [])
    ++ (method_tags level.method
    ++ (map (crease_tag level) (written_edges level)
    ++ (map (vertex_tag level) (written_vertices level) ++ map hole_tag (written_holes level))))

-- the lines of points, texture values and faces
abbrev pub lines_of_faces : {Face : Type 0} → List Point → List (Value × Value) → (Face → Line) → List Face → List Line
lines_of_faces points texture face_line faces = map vertex_line points ++ (map texture_value_line texture ++ map face_line faces)

-- the lines of a mesh without texture
abbrev pub mesh_lines : Bool → Level → List Point → List Line
mesh_lines holes level points = lines_of_faces points [] polygon_line (shown holes level level.polygons)

-- the lines of a mesh with texture
abbrev pub textured_mesh_lines : Bool → Level → List Point → Level → List (Value × Value) → List Line
textured_mesh_lines holes level points cut texture =
    lines_of_faces points texture textured_polygon_line (shown holes level (zip level.polygons cut.polygons))

-- a mesh to be written with texture values: its level and points, the faces of a cut level, and whether holes are shown
pub record MeshToWrite : Type 0 where
  pub holes : Bool
  pub level : Level
  pub points : List Point
  pub cut : Level
  pub texture : List (Value × Value)

-- the text of a mesh with texture, without tags
abbrev pub text_to_write : MeshToWrite → List ℕ
text_to_write mesh = textured_mesh_text None mesh.holes mesh.level mesh.points mesh.cut mesh.texture

-- the lines of a mesh with texture, without tags
abbrev pub lines_to_write : MeshToWrite → List Line
lines_to_write mesh = textured_mesh_lines mesh.holes mesh.level mesh.points mesh.cut mesh.texture

-- a text is read as these lines
abbrev pub IsReadAs : List ℕ → List Line → Type 0
IsReadAs text lines = obj_lines text ≡ map words_of lines
