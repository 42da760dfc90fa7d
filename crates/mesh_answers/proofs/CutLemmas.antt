-- The levels of a mesh's cut mesh: their faces have as many corners as those of the mesh's levels.
use Rattle.std.proofs.Common.{◌≡◌, ℕ, zero, suc, ◌*◌, length, map, ap, sym, ◌∙◌}
use Rattle.std.specs.List.{sum}
use Rattle.std.proofs.lemmas.List.Sums.{sum-map}
use Rattle.subdiv_model.specs.ObjMesh.{ObjMesh}
use Rattle.subdiv_model.specs.Base.{base_level}
use Rattle.subdiv_model.specs.Child.{refined_level, faces_after}
use Rattle.subdiv_model.specs.Cut.{SeamMode, SmoothSeams, cut_level}
use Rattle.texture_laws.specs.CutMesh.{cut_faces}
use Rattle.texture_laws.proofs.ChannelLemmas.{cut-count}
use Rattle.sparse_texture_laws.proofs.CutLemmas.{mesh-same}
use Rattle.sparse_texture_laws.proofs.FaceLemmas.{after-same}

-- the faces of each level of the cut mesh have as many corners as those of the mesh's level
pub cut-alike : (mode : SeamMode) (mesh : ObjMesh) (depth : ℕ) →
    map length (refined_level (cut_level mode mesh) depth).polygons ≡ map length (refined_level (base_level mesh) depth).polygons
cut-alike mode mesh depth = (after-same (base_level mesh) (cut_level mode mesh) (mesh-same mode mesh) depth).sizes

-- the level of the cut mesh has as many faces as that of the mesh
pub cut-faces-after : (mesh : ObjMesh) (k : ℕ) → faces_after (cut_faces mesh) k ≡ faces_after mesh.faces k
cut-faces-after mesh zero = cut-count mesh
cut-faces-after mesh (suc zero) = sym (sum-map length (cut_faces mesh)) ∙ ap sum (mesh-same SmoothSeams mesh).sizes ∙ sum-map length mesh.faces
cut-faces-after mesh (suc (suc k)) = ap (λ n. 4 * n) (cut-faces-after mesh (suc k))
