-- The origins of a level of a mesh.
use Rattle.std.proofs.Common.{◌≡◌, ℕ, ap, subst, ◌∙◌}
use Rattle.subdiv_model.specs.Lists.{first_of}
use Rattle.subdiv_model.specs.ObjMesh.{ObjMesh}
use Rattle.subdiv_model.specs.Fault.{Positions}
use Rattle.subdiv_model.specs.Channel.{Sharpnesses, channel_faults}
use Rattle.far_model.specs.Answer.{positions_of}
use Rattle.level_topology.specs.Topology.{Topology}
use Rattle.level_walk.specs.Origins.{origins_to}
use Rattle.level_walk.specs.ChildOrigins.{AreFew}
use Rattle.level_walk.specs.OriginsView.{seen_origins}
use Rattle.level_walk.specs.declared.origin.Origins.{Origins}
use Rattle.level_walk.specs.UniformLevels.{AreMade}
use Rattle.level_walk.proofs.UniformFaultLemmas.{no-fault-made}
use Rattle.mesh_answers.specs.Levels.{IsLevelWithin}
use Rattle.mesh_answers.specs.Origins.{AreOriginsOf}
use Rattle.mesh_answers.proofs.RefusalLemmas.{refusal-of-others, small-manifold}

-- all levels were made, and the origins carried along
pub origins-found : (mesh : ObjMesh) (level : Topology) (depth : ℕ) (origins : Origins) → IsLevelWithin depth mesh level
    → seen_origins origins ≡ origins_to level.level depth → AreFew (seen_origins origins) → AreMade level.level depth → AreOriginsOf mesh depth origins
origins-found mesh level depth origins within are few made = record {
  good =
      refusal-of-others depth mesh (small-manifold depth mesh level within) (channel_faults Sharpnesses (positions_of mesh) Positions depth)
      ∙ ap first_of (no-fault-made (positions_of mesh) depth (subst (λ l. AreMade l depth) within.accepted.level_is made) Positions);
  origins_are = are ∙ ap (λ l. origins_to l depth) within.accepted.level_is;
  few = few;
}
