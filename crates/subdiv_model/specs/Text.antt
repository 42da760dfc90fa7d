-- Texts of refined meshes: lines of points, texture points, faces and tags.
-- Source: Drillolive; the names of the tags are those of OpenSubdiv's shapes.
use Rattle.std.specs.Prelude.{ℕ, ◌+◌, ℤ, Bool, false, not, ◌&&◌, ◌||◌, nat_eq, List, [], ◌∷◌, ◌++◌, length, map, zip, codes, Option, None}
use Rattle.std.specs.List.{flat_map, filter, range_with_len}
use Rattle.subdiv_model.specs.Polygons.{Polygon}
use Rattle.subdiv_model.specs.Edges.{edges_of, faces_of_edge}
use Rattle.subdiv_model.specs.Sharpness.{Sharpness, Smooth, Semi, Infinite, Method, Normal, Chaikin, is_sharp}
use Rattle.subdiv_model.specs.Level.{Level, edge_sharpness_of, vertex_sharpness_of, is_hole}
use Rattle.subdiv_model.specs.Value.{Value}
use Rattle.subdiv_model.specs.Child.{refined_level}
use Rattle.subdiv_model.specs.Mask.{Scheme}
use Rattle.subdiv_model.specs.Refined.{Point, refined_points}
use Rattle.subdiv_model.specs.NumberText.{number_text, ratio_text, value_text, value_text_with}

-- a keyword, then each word after one space
abbrev pub line_text : List ℕ → List (List ℕ) → List ℕ
line_text keyword words = keyword ++ (flat_map (λ word. 32 ∷ word) words ++ (10 ∷ []))

-- the coordinates of a point in lowest terms
abbrev pub point_words : Point → List (List ℕ)
point_words point = value_text point.0 ∷ value_text point.1 ∷ value_text point.2 ∷ []

-- the line of a point, in lowest terms or rounded to the given decimals
abbrev pub point_line : Option ℕ → Point → List ℕ
point_line decimals point =
    line_text (codes "v") (value_text_with decimals point.0 ∷ value_text_with decimals point.1 ∷ value_text_with decimals point.2 ∷ [])

-- the line of a texture value, in lowest terms or rounded to the given decimals
abbrev pub texture_line : Option ℕ → Value × Value → List ℕ
texture_line decimals point = line_text (codes "vt") (value_text_with decimals point.0 ∷ value_text_with decimals point.1 ∷ [])

-- the line of a face, with corners counted from 1
abbrev pub face_line : Polygon → List ℕ
face_line polygon = line_text (codes "f") (map (λ corner. number_text (corner + 1)) polygon)

-- a corner with its texture point
abbrev pub corner_text : ℕ × ℕ → List ℕ
corner_text corner = number_text (corner.0 + 1) ++ (codes "/" ++ number_text (corner.1 + 1))

-- the line of a face with texture points, counted from 1
abbrev pub textured_face_line : Polygon × Polygon → List ℕ
textured_face_line face = line_text (codes "f") (map corner_text (zip face.0 face.1))

-- the items of a list at faces of the level that are no holes, or at all faces
abbrev pub shown : {X : Type 0} → Bool → Level → List X → List X
shown all level items = map (λ item. item.0) (filter (λ item. all || not item.1) (zip items level.holes))

-- the `v` lines, then the `f` lines, with or without faces that are holes
abbrev pub mesh_text : Option ℕ → Bool → Level → List Point → List ℕ
mesh_text decimals holes level points =
    flat_map (point_line decimals) points ++ flat_map face_line (shown holes level level.polygons)

-- the `v` lines, the `vt` lines, then the `f` lines, whose texture points are the corners of the cut level
abbrev pub textured_mesh_text : Option ℕ → Bool → Level → List Point → Level → List (Value × Value) → List ℕ
textured_mesh_text decimals holes level points cut texture =
    flat_map (point_line decimals) points
    ++ (flat_map (texture_line decimals) texture
    ++ flat_map textured_face_line (shown holes level (zip level.polygons cut.polygons)))

-- a sharpness in lowest terms; an infinite one is written as 10
abbrev pub sharpness_text : Sharpness → List ℕ
sharpness_text Smooth = codes "0"
sharpness_text (Semi num den) = ratio_text (num, den)
sharpness_text Infinite = codes "10"

-- the line of a tag: its name, its counts and its values
abbrev pub tag_line : List ℕ → List ℕ → List (List ℕ) → List ℕ
tag_line name counts values = line_text (codes "t") (name ∷ counts ∷ values)

-- the line of the method, empty for `normal`
abbrev pub method_line : Method → List ℕ
method_line Normal = []
method_line Chaikin = tag_line (codes "creasemethod") (codes "0/0/1") (codes "chaikin" ∷ [])

-- the edge has two faces and is sharp
abbrev pub is_written_crease : Level → ℕ × ℕ → Bool
is_written_crease level edge = nat_eq (length (faces_of_edge level.polygons edge)) 2 && is_sharp (edge_sharpness_of level edge)

-- the tag line of a crease
abbrev pub crease_line : Level → ℕ × ℕ → List ℕ
crease_line level edge =
    tag_line (codes "crease") (codes "2/1/0") (number_text edge.0 ∷ number_text edge.1 ∷ sharpness_text (edge_sharpness_of level edge) ∷ [])

-- the tag line of a corner
abbrev pub corner_tag_line : Level → ℕ → List ℕ
corner_tag_line level v = tag_line (codes "corner") (codes "1/1/0") (number_text v ∷ sharpness_text (vertex_sharpness_of level v) ∷ [])

-- the tag line of a hole
abbrev pub hole_line : ℕ → List ℕ
hole_line face = tag_line (codes "hole") (codes "1/0/0") (number_text face ∷ [])

-- the tags that give the level again: its mode, its method, its sharp inner edges, its sharp vertices and its holes
abbrev pub tags_text : Level → List ℕ
tags_text level =
    tag_line (codes "interpolateboundary") (codes "1/0/0") (codes "2" ∷ [])
    ++ (method_line level.method
    ++ (flat_map (crease_line level) (filter (is_written_crease level) (edges_of level.polygons))
    ++ (flat_map (corner_tag_line level) (filter (λ v. is_sharp (vertex_sharpness_of level v)) (range_with_len 0 level.point_count))
    ++ flat_map hole_line (filter (is_hole level) (range_with_len 0 (length level.polygons))))))

-- the text of a level after k steps, from points that are whole numbers over a common denominator
abbrev pub refined_text : Level → Scheme → ℕ → List (ℤ × ℤ × ℤ) → ℕ → List ℕ
refined_text level scheme common controls k =
    mesh_text None false (refined_level level k) (refined_points level scheme common controls k)
