-- The levels of a cut mesh, and the ends of the descendants of its boundary, for the laws of seams.
-- Source: Drillolive.
use Rattle.std.specs.Prelude.{ℕ, ℤ, Bool, List, [], ◌∷◌, length, IsTrue}
use Rattle.std.specs.List.{list_any}
use Rattle.subdiv_model.specs.Polygons.{same_edge}
use Rattle.subdiv_model.specs.Edges.{has_end}
use Rattle.subdiv_model.specs.Manifold.{IsManifold}
use Rattle.subdiv_model.specs.ObjMesh.{ObjMesh}
use Rattle.subdiv_model.specs.Level.{Level}
use Rattle.subdiv_model.specs.Child.{refined_level}
use Rattle.subdiv_model.specs.Mask.{Scheme}
use Rattle.subdiv_model.specs.Value.{Value}
use Rattle.subdiv_model.specs.Refined.{point_value, control_values, refined_values}
use Rattle.subdiv_model.specs.Cut.{SeamMode, SmoothSeams, BoundarySeams, cut_level}
use Rattle.theorems.specs.Descendants.{boundary_descendants}

-- the level of the cut mesh after k steps, where its boundary stays sharp
abbrev pub sharp_level : ObjMesh → ℕ → Level
sharp_level mesh k = refined_level (cut_level BoundarySeams mesh) k

-- the level of the cut mesh after k steps, where seams are smooth
abbrev pub smooth_level : ObjMesh → ℕ → Level
smooth_level mesh k = refined_level (cut_level SmoothSeams mesh) k

-- the descendants after k steps of the boundary edges of the cut mesh, where its boundary stays sharp
abbrev pub seam_descendants : ObjMesh → ℕ → List (ℕ × ℕ)
seam_descendants mesh k = boundary_descendants (cut_level BoundarySeams mesh) k

-- the edge is a descendant of a boundary edge, in either direction
abbrev pub is_seam_descendant : ObjMesh → ℕ → ℕ × ℕ → Bool
is_seam_descendant mesh k edge = list_any (same_edge edge) (seam_descendants mesh k)

-- the end p of a descendant of a boundary edge, after k steps, in the cut mesh of a manifold
pub record SeamEnd : Type 0 where
  pub mesh : ObjMesh
  pub k : ℕ
  pub p : ℕ
  pub manifold : IsManifold (length mesh.points) mesh.faces
  pub is_end : IsTrue (list_any (has_end p) (seam_descendants mesh k))

-- the value at the end, refined by the scheme from the control numbers of the cut mesh
abbrev pub cut_value : SeamMode → Scheme → List ℤ → SeamEnd → Value
cut_value seams scheme controls end =
    point_value (refined_values (cut_level seams end.mesh) scheme (control_values controls) end.k) end.p

-- the halves of the six outer edges of two quads that share an edge
abbrev pub halves_of_joined_quads : List (ℕ × ℕ)
halves_of_joined_quads =
    (0, 8) ∷ (1, 8) ∷ (2, 10) ∷ (3, 10) ∷ (3, 11) ∷ (0, 11) ∷ (1, 12) ∷ (4, 12) ∷ (4, 13) ∷ (5, 13) ∷ (5, 14) ∷ (2, 14) ∷ []
