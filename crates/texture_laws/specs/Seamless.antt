-- Meshes without texture seams.
use Rattle.std.specs.Prelude.{◌≡◌, false, length, IsTrue}
use Rattle.std.specs.List.{list_any}
use Rattle.subdiv_model.specs.Edges.{edges_of}
use Rattle.subdiv_model.specs.Manifold.{IsManifold}
use Rattle.subdiv_model.specs.ObjMesh.{ObjMesh, has_faces_over_points}
use Rattle.subdiv_model.specs.Cut.{is_seam}

-- the faces are a manifold over the points, and no edge is a seam
pub record IsSeamlessManifold (mesh : ObjMesh) : Type 0 where
  pub over : IsTrue (has_faces_over_points mesh)
  pub manifold : IsManifold (length mesh.points) mesh.faces
  pub no_seams : list_any (is_seam mesh) (edges_of mesh.faces) ≡ false
