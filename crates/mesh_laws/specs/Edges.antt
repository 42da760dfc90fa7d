-- Inner edges, boundary edges, and the number of faces at an edge.
use Rattle.std.specs.Prelude.{◌≡◌, ℕ, ◌≤◌, false, List, length, IsTrue}
use Rattle.std.specs.List.{list_any}
use Rattle.subdiv_model.specs.Polygons.{Polygon, same_edge}
use Rattle.subdiv_model.specs.Edges.{edges_of, faces_of_edge, is_boundary}

-- the edge belongs to the faces, and is no boundary edge
pub record IsInnerEdge (faces : List Polygon) (edge : ℕ × ℕ) : Type 0 where
  pub is_edge : IsTrue (list_any (same_edge edge) (edges_of faces))
  pub is_inner : is_boundary faces edge ≡ false

-- the edge belongs to the faces, and is a boundary edge
pub record IsBoundaryEdge (faces : List Polygon) (edge : ℕ × ℕ) : Type 0 where
  pub is_edge : IsTrue (list_any (same_edge edge) (edges_of faces))
  pub is_at_boundary : IsTrue (is_boundary faces edge)

-- one or two of the faces have the edge
abbrev pub HasOneOrTwoFaces : List Polygon → ℕ × ℕ → Type 0
HasOneOrTwoFaces faces edge = (1 ≤ length (faces_of_edge faces edge)) × (length (faces_of_edge faces edge) ≤ 2)
