-- The faces at a vertex and the edges that join them there, for the laws of joined faces.
use Rattle.std.specs.Prelude.{◌≡◌, ℕ, Bool, false, IsTrue}
use Rattle.subdiv_model.specs.Polygons.{is_among, polygon_at, has_corner, has_edge}
use Rattle.subdiv_model.specs.Edges.{has_end}
use Rattle.subdiv_model.specs.ObjMesh.{ObjMesh}
use Rattle.subdiv_model.specs.Cut.{is_seam, joined_faces}

-- the face has a corner at the vertex
abbrev pub has_vertex : ObjMesh → ℕ → ℕ → Bool
has_vertex mesh face v = has_corner v (polygon_at mesh.faces face)

-- both faces are joined at the vertex
abbrev pub are_joined : ObjMesh → ℕ → ℕ → ℕ → Bool
are_joined mesh v face f = is_among (joined_faces mesh v face) f

-- an edge of both faces ends at v and is no seam
pub record HaveJoiningEdge (mesh : ObjMesh) (v f g : ℕ) : Type 0 where
  pub edge : ℕ × ℕ
  pub ends_there : IsTrue (has_end v edge)
  pub no_seam : is_seam mesh edge ≡ false
  pub of_first : IsTrue (has_edge edge (polygon_at mesh.faces f))
  pub of_second : IsTrue (has_edge edge (polygon_at mesh.faces g))

-- if a face is kept, each face that shares an edge at v with it, which is no seam, is kept
abbrev pub KeepsJoined : ObjMesh → ℕ → (ℕ → Bool) → Type 0
KeepsJoined mesh v kept = (f g : ℕ) → HaveJoiningEdge mesh v f g → IsTrue (kept f) → IsTrue (kept g)
