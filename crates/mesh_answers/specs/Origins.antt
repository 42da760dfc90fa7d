-- The parts of level 0 on which the points, edges and faces of a level lie.
use Rattle.std.specs.Prelude.{ℕ, ◌≡◌, None, Result, MatchResult}
use Rattle.far_model.specs.Command.{Levels}
use Rattle.subdiv_model.specs.Base.{base_level}
use Rattle.subdiv_model.specs.ObjMesh.{ObjMesh}
use Rattle.level_walk.specs.Origins.{origins_to}
use Rattle.level_walk.specs.ChildOrigins.{AreFew}
use Rattle.level_walk.specs.OriginsView.{seen_origins}
use Rattle.level_walk.specs.declared.origin.Origins.{Origins}
use Rattle.far_fault.specs.View.{fault_of}
use Rattle.far_fault.specs.declared.fault.FarFault.{FarFault}
use Rattle.mesh_answers.specs.Refusals.{refusal_of_mesh, IsFound}

-- the mesh is not refused when its levels are counted, and these are the origins of its level at the depth
pub record AreOriginsOf (mesh : ObjMesh) (depth : ℕ) (origins : Origins) : Type 0 where
  pub good : refusal_of_mesh (Levels depth) mesh ≡ None
  pub origins_are : seen_origins origins ≡ origins_to (base_level mesh) depth
  pub few : AreFew (seen_origins origins)

-- the origins, or the refusal of the mesh when its levels are counted
abbrev pub AreOriginsFound : ObjMesh → ℕ → Result Origins FarFault → Type 0
AreOriginsFound mesh depth result =
    MatchResult result (AreOriginsOf mesh depth) (λ fault. IsFound (fault_of fault) (refusal_of_mesh (Levels depth) mesh))
