-- Which tag line gives an edge or a vertex its sharpness at level 0, which faces are holes there, and the mode and method.
use Rattle.std.proofs.Common.{◌≡◌, ℕ, ◌<◌, false, ◌||◌, nat_eq, List, ◌∷◌, ◌++◌, length, arith, ap, ◌∙◌, if◌then◌else◌, IsTrue}
use Rattle.std.specs.Prelude.{codes}
use Rattle.std.specs.List.{filter, list_any, count_by}
use Rattle.std.proofs.Math.Bool.{or-false}
use Rattle.std.proofs.lemmas.List.{length-map}
use Rattle.std.proofs.lemmas.List.Sums.{length-filter}
use Rattle.subdiv_model.specs.Polygons.{same_edge, polygon_at}
use Rattle.subdiv_model.specs.Edges.{edges_of, is_boundary}
use Rattle.subdiv_model.specs.Sharpness.{Smooth, Infinite}
use Rattle.subdiv_model.specs.Boundary.{Boundary}
use Rattle.subdiv_model.specs.Level.{edge_sharpness_of, vertex_sharpness_of, is_hole}
use Rattle.subdiv_model.specs.Base.{tagged_edge, tagged_vertex, is_end_corner, is_hidden, base_level}
use Rattle.subdiv_model.specs.ObjLine.{is_vertex_line}
use Rattle.subdiv_model.specs.ObjTag.{is_tag, tag_creases, tag_corners}
use Rattle.subdiv_model.specs.ReadObj.{point_over, position_common, faces_of, boundary_of, mesh_of_lines}
use Rattle.theorems.specs.TagLines.{is_crease_line_of, is_corner_line_of, is_hole_line_of, is_boundary_line}
use Rattle.theorems.proofs.MeshTagLemmas.{interior-edge, untagged-edge, base-vertex, end-corner, other-vertex, untagged-vertex, base-hole}
use Rattle.theorems.proofs.TextTagLemmas.{Line, any-made, last-crease_line, last-corner_line, holes-any, no-mode}

-- each vertex line gives a point
within : (lines : List Line) (least v : ℕ) → v < count_by is_vertex_line lines → v < length (mesh_of_lines lines least).points
within lines least v inside =
    let points = length-map (filter is_vertex_line lines) (point_over (position_common least lines)) in
    omega (arith, inside, points, length-filter is_vertex_line lines)

pub last-edge : (lines before after : List Line) (words : Line) (least : ℕ) (edge : ℕ × ℕ) → lines ≡ before ++ (words ∷ after)
    → IsTrue (is_crease_line_of edge words) → list_any (is_crease_line_of edge) after ≡ false
    → IsTrue (list_any (same_edge edge) (edges_of (faces_of lines))) → is_boundary (faces_of lines) edge ≡ false
    → edge_sharpness_of (base_level (mesh_of_lines lines least)) edge ≡ tagged_edge (tag_creases words) edge
last-edge lines before after words least edge split some none there interior =
    interior-edge (mesh_of_lines lines least) edge there interior ∙ last-crease_line lines before after words least edge split some none

pub no-edge : (lines : List Line) (least : ℕ) (edge : ℕ × ℕ) → list_any (is_crease_line_of edge) lines ≡ false
    → is_boundary (faces_of lines) edge ≡ false → edge_sharpness_of (base_level (mesh_of_lines lines least)) edge ≡ Smooth
no-edge lines least edge none interior =
    untagged-edge (mesh_of_lines lines least) edge
    (any-made (is_tag (codes "crease")) tag_creases (λ crease. same_edge edge crease.0) lines ∙ none) interior

pub last-vertex : (lines before after : List Line) (words : Line) (least v : ℕ) → lines ≡ before ++ (words ∷ after)
    → IsTrue (is_corner_line_of v words) → list_any (is_corner_line_of v) after ≡ false
    → v < count_by is_vertex_line lines → is_end_corner (boundary_of lines) (faces_of lines) v ≡ false
    → vertex_sharpness_of (base_level (mesh_of_lines lines least)) v ≡ tagged_vertex (tag_corners words) v
last-vertex lines before after words least v split some none inside other =
    other-vertex (mesh_of_lines lines least) v (within lines least v inside) other
    ∙ last-corner_line lines before after words least v split some none

pub no-vertex : (lines : List Line) (least v : ℕ) → list_any (is_corner_line_of v) lines ≡ false
    → is_end_corner (boundary_of lines) (faces_of lines) v ≡ false
    → vertex_sharpness_of (base_level (mesh_of_lines lines least)) v ≡ Smooth
no-vertex lines least v none other =
    untagged-vertex (mesh_of_lines lines least) v
    (any-made (is_tag (codes "corner")) tag_corners (λ tag. nat_eq v tag.0) lines ∙ none) other

pub end-vertex : (lines : List Line) (least v : ℕ) → v < count_by is_vertex_line lines
    → IsTrue (is_end_corner (boundary_of lines) (faces_of lines) v)
    → vertex_sharpness_of (base_level (mesh_of_lines lines least)) v ≡ Infinite
end-vertex lines least v inside end = end-corner (mesh_of_lines lines least) v (within lines least v inside) end

pub line-hole : (lines : List Line) (least face : ℕ) → face < length (faces_of lines)
    → is_hole (base_level (mesh_of_lines lines least)) face
    ≡ (list_any (is_hole_line_of face) lines || is_hidden (boundary_of lines) (faces_of lines) (polygon_at (faces_of lines) face))
line-hole lines least face inside =
    base-hole (mesh_of_lines lines least) face inside
    ∙ ap (λ b. b || is_hidden (boundary_of lines) (faces_of lines) (polygon_at (faces_of lines) face)) (holes-any lines least face)

-- what a boundary mode makes of vertices and faces
module _ (lines : List Line) (least : ℕ) (mode : Boundary) (is : boundary_of lines ≡ mode) where
  pub mode-vertex : (v : ℕ) → v < count_by is_vertex_line lines
      → vertex_sharpness_of (base_level (mesh_of_lines lines least)) v
      ≡ (if is_end_corner mode (faces_of lines) v then Infinite else tagged_vertex (mesh_of_lines lines least).corner_tags v)
  mode-vertex v inside =
      base-vertex (mesh_of_lines lines least) v (within lines least v inside)
      ∙ ap (λ m. if is_end_corner m (faces_of lines) v then Infinite else tagged_vertex (mesh_of_lines lines least).corner_tags v) is

  pub mode-hole : (face : ℕ) → face < length (faces_of lines)
      → is_hole (base_level (mesh_of_lines lines least)) face
      ≡ (list_any (is_hole_line_of face) lines || is_hidden mode (faces_of lines) (polygon_at (faces_of lines) face))
  mode-hole face inside =
      line-hole lines least face inside
      ∙ ap (λ m. list_any (is_hole_line_of face) lines || is_hidden m (faces_of lines) (polygon_at (faces_of lines) face)) is

-- without a mode no face is hidden
pub no-mode-hole : (lines : List Line) (least face : ℕ) → list_any is_boundary_line lines ≡ false → face < length (faces_of lines)
    → is_hole (base_level (mesh_of_lines lines least)) face ≡ list_any (is_hole_line_of face) lines
no-mode-hole lines least face none inside =
    mode-hole lines least _ (no-mode lines least none) face inside ∙ or-false (list_any (is_hole_line_of face) lines)
