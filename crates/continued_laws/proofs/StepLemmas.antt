-- The levels after a level, as those after the one it came from, and what they keep.
use Rattle.std.proofs.Common.{◌≡◌, ℕ, zero, suc, ◌+◌, None, length, arith, ap, ◌∙◌, IsTrue}
use Rattle.subdiv_model.specs.Polygons.{is_over}
use Rattle.subdiv_model.specs.MeshFault.{first_mesh_fault}
use Rattle.subdiv_model.specs.ObjMesh.{ObjMesh, has_faces_over_points}
use Rattle.subdiv_model.specs.Level.{Level}
use Rattle.subdiv_model.specs.Base.{base_level}
use Rattle.subdiv_model.specs.Child.{child_level, refined_level}
use Rattle.mesh_laws.specs.Manifolds.{IsManifoldOver}
use Rattle.mesh_laws.proofs.FaultLemmas.{fault-decides}
use Rattle.mesh_laws.proofs.WalkLemmas.{manifold-decides}
use Rattle.mesh_laws.proofs.Laws.{manifold-levels}
use Rattle.level_laws.proofs.BaseLemmas.{base-well-formed}
use Rattle.level_laws.proofs.WellFormedLemmas.{first-of-six, levels-well-formed}
use Rattle.level_laws.specs.Tags.{HasProperTags}
use Rattle.mask_laws.specs.Laws.{IsManifoldMesh, IsManifoldWithSharpBoundary, mesh_level}
use Rattle.mask_laws.proofs.BoundaryLemmas.{boundary-base}
use Rattle.mask_laws.proofs.MeanLemmas.{child-sharp}

pub steps-on : (level : Level) (k j : ℕ) → refined_level (refined_level level k) j ≡ refined_level level (k + j)
steps-on level k zero = ap (refined_level level) (omega arith)
steps-on level k (suc j) =
    let next : suc (k + j) ≡ k + suc j = omega arith in
    ap child_level (steps-on level k j) ∙ ap (refined_level level) next

-- each level of a manifold whose boundary is infinitely sharp is one
pub sharp-on : (level : Level) (k : ℕ) → IsManifoldWithSharpBoundary level → IsManifoldWithSharpBoundary (refined_level level k)
sharp-on level zero is = is
sharp-on level (suc k) is =
    let behind = sharp-on level k is in
    let here = refined_level level k in
    let over : IsTrue (is_over here.point_count here.polygons) = first-of-six _ _ _ _ _ _ behind.formed in
    record {
      formed = levels-well-formed here 1 behind.formed;
      manifold = (manifold-levels here 1 over behind.manifold).1;
      sharp_boundary = child-sharp here over behind.manifold behind.sharp_boundary;
    }

pub sharp-mesh : (mesh : ObjMesh) (k : ℕ) → IsManifoldMesh mesh → HasProperTags mesh → IsManifoldWithSharpBoundary (mesh_level mesh k)
sharp-mesh mesh k is tags =
    sharp-on (base_level mesh) k (record {
      formed = base-well-formed mesh is.over_points tags.creases tags.corner_tags;
      manifold = is.manifold;
      sharp_boundary = boundary-base mesh is.manifold;
    })

-- each level of a manifold has no fault
pub no-fault : (level : Level) (k : ℕ) → IsManifoldOver level.point_count level.polygons
    → first_mesh_fault (refined_level level k).point_count (refined_level level k).polygons ≡ None
no-fault level k is =
    let here = refined_level level k in
    let manifold = (manifold-levels level k is.over is.manifold).1 in
    (fault-decides here.point_count here.polygons).1 ((manifold-decides here.point_count here.polygons).1 manifold)

-- each level of a mesh without fault has no fault
pub no-fault-on : (mesh : ObjMesh) (k : ℕ) → IsTrue (has_faces_over_points mesh) → first_mesh_fault (length mesh.points) mesh.faces ≡ None
    → first_mesh_fault (mesh_level mesh k).point_count (mesh_level mesh k).polygons ≡ None
no-fault-on mesh k over fine =
    no-fault (base_level mesh) k (record {
      over = over;
      manifold = (manifold-decides (length mesh.points) mesh.faces).0 ((fault-decides (length mesh.points) mesh.faces).0 fine);
    })
