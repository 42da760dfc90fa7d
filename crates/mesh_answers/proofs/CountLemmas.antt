-- The levels of a mesh, counted.
use Rattle.std.proofs.Common.{◌≡◌, ℕ, ◌+◌, ◌^◌, ◌≤◌, List, map, replicate, true, IsTrue, Result, arith, refl, ap, sym, subst, ◌∙◌}
use Rattle.std.specs.List.{range_with_len}
use Rattle.subdiv_model.specs.Lists.{first_of}
use Rattle.subdiv_model.specs.Base.{base_level}
use Rattle.subdiv_model.specs.Child.{refined_level}
use Rattle.subdiv_model.specs.ObjMesh.{ObjMesh}
use Rattle.far_model.specs.Command.{Levels}
use Rattle.subdiv_model.specs.Fault.{Positions}
use Rattle.subdiv_model.specs.Channel.{Channel, Sharpnesses, channel_faults}
use Rattle.far_model.specs.Answer.{positions_of}
use Rattle.mask_laws.specs.SharpBoundary.{has_sharp_boundary}
use Rattle.mask_laws.proofs.BoundaryLemmas.{boundary-base}
use Rattle.level_topology.specs.Topology.{Topology}
use Rattle.mesh_check.specs.Checked.{IsAccepted}
use Rattle.level_walk.specs.declared.counts.LevelCounts.{LevelCounts}
use Rattle.level_walk.specs.Counts.{counts_of}
use Rattle.level_walk.specs.CountsView.{seen_counts}
use Rattle.level_walk.specs.declared.fault.WalkFault.{WalkFault}
use Rattle.ratio128.specs.StepsTaken.{StepsTaken}
use Rattle.far_fault.specs.Walk.{walk_fault_of}
use Rattle.level_walk.specs.UniformFaults.{IsChannelFault}
use Rattle.level_walk.specs.UniformLevels.{AreMade, faces_to}
use Rattle.level_walk.proofs.UniformFaultLemmas.{no-fault-made}
use Rattle.far_text.specs.Levels.{levels_lines}
use Rattle.far_text.proofs.LevelsLemmas.{lines-of-levels}
use Rattle.far_text.specs.declared.reply.Reply.{Reply}
use Rattle.far_text.specs.Reply.{CanPut, reply_text}
use Rattle.mesh_answers.specs.Levels.{AreCounted, IsLevelWithin}
use Rattle.mesh_answers.specs.Refusals.{IsFound, refusal_of_mesh}
use Rattle.mesh_answers.specs.Replies.{IsReplyTo, written_text}
use Rattle.mesh_answers.specs.StepCounts.{later_faces}
use Rattle.mesh_answers.proofs.RefusalLemmas.{found-of-others, is-manifold, refusal-of-others, small-manifold}
use Rattle.mesh_answers.proofs.LevelLemmas.{few-points, found-of-walk, steps-of-levels}
use Rattle.mesh_answers.proofs.ReplyLemmas.{any-steps}

-- level 0 of a mesh can be refined
pub accepted-points : (mesh : ObjMesh) (level : Topology) → IsAccepted mesh level → level.level.point_count ≤ 2 ^ 20
accepted-points mesh level accepted = omega (arith, ap (λ l. l.point_count) accepted.level_is, few-points mesh accepted.small)

pub accepted-whole : (mesh : ObjMesh) (level : Topology) → IsAccepted mesh level → level.complete ≡ replicate level.level.point_count true
accepted-whole mesh level accepted = accepted.complete ∙ ap (λ n. replicate n true) (sym (ap (λ l. l.point_count) accepted.level_is))

pub accepted-boundary : (mesh : ObjMesh) (level : Topology) → IsAccepted mesh level → IsTrue (has_sharp_boundary level.level)
accepted-boundary mesh level accepted = rw accepted.level_is (boundary-base mesh (is-manifold mesh accepted.manifold))

-- all levels were made and counted
pub counted-levels : (mesh : ObjMesh) (level : Topology) (depth : ℕ) (counts : List LevelCounts) → IsLevelWithin depth mesh level →
    (map seen_counts counts ≡ map (λ k. counts_of (refined_level level.level k)) (range_with_len 0 (depth + 1))) × AreMade level.level depth → AreCounted mesh depth counts
counted-levels mesh level depth counts within counted =
    let made : AreMade (base_level mesh) depth = subst (λ l. AreMade l depth) within.accepted.level_is counted.1 in
    record {
      good =
          refusal-of-others depth mesh (small-manifold depth mesh level within) (channel_faults Sharpnesses (positions_of mesh) Positions depth)
          ∙ ap first_of (no-fault-made (positions_of mesh) depth made Positions);
      counts_are = counted.0 ∙ ap (λ l. map (λ k. counts_of (refined_level l k)) (range_with_len 0 (depth + 1))) within.accepted.level_is;
    }

-- the faces of the levels after the first
pub later-faces : (mesh : ObjMesh) (level : Topology) (depth : ℕ) → IsAccepted mesh level → faces_to level.level depth ≡ later_faces depth mesh
later-faces mesh level depth accepted = ap (λ l. faces_to l depth) accepted.level_is ∙ steps-of-levels (base_level mesh) depth

pub counts-steps : {X E : Type 0} (mesh : ObjMesh) (level : Topology) (depth old new : ℕ) (r : Result X E) → IsLevelWithin depth mesh level → new ≤ old + faces_to level.level depth → old ≤ new →
    StepsTaken r old new 0 (later_faces depth mesh)
counts-steps mesh level depth old new r within most later =
    any-steps r old new 0 (later_faces depth mesh) (omega (arith, later)) later (omega (arith, most, later-faces mesh level depth within.accepted))

-- a level was refused
pub counts-failed : (mesh : ObjMesh) (level : Topology) (depth : ℕ) (fault : WalkFault) → IsLevelWithin depth mesh level →
    ((channel : Channel) → channel.base ≡ level.level → IsChannelFault Sharpnesses channel depth fault) → IsFound (walk_fault_of Positions fault) (refusal_of_mesh (Levels depth) mesh)
counts-failed mesh level depth fault within is =
    found-of-others depth mesh (small-manifold depth mesh level within) (channel_faults Sharpnesses (positions_of mesh) Positions depth) (walk_fault_of Positions fault)
    (found-of-walk Sharpnesses (positions_of mesh) mesh depth within.few (λ n. refl) Positions fault.level fault.cause (is (positions_of mesh) (sym within.accepted.level_is)))

-- their lines are what the command writes
pub counts-reply : (depth : ℕ) (mesh : ObjMesh) (counts : List LevelCounts) (reply : Reply) → AreCounted mesh depth counts → reply_text reply ≡ levels_lines 0 (map seen_counts counts) → CanPut reply →
    IsReplyTo (Levels depth) mesh reply
unfolding written_text
counts-reply depth mesh counts reply counted says can = record {
  good = counted.good;
  says = says ∙ ap (levels_lines 0) counted.counts_are ∙ sym (lines-of-levels (base_level mesh) depth);
  put = can;
}
