-- The ends of a refinement: its positions are refused, or the rest of it answers.
use Rattle.std.proofs.Common.{◌≡◌, ℕ, ◌+◌, ◌≤◌, false, cond, Result, Ok, Err, OnOk, IsErr, IsErrAnd, arith, refl, ap, subst}
use Rattle.subdiv_model.specs.ObjMesh.{ObjMesh}
use Rattle.far_model.specs.Command.{Refine, RefineOptions}
use Rattle.ratio128.specs.StepsTaken.{StepsTaken}
use Rattle.far_fault.specs.View.{fault_of}
use Rattle.far_fault.specs.declared.fault.FarFault.{FarFault}
use Rattle.far_text.specs.declared.reply.Reply.{Reply}
use Rattle.mesh_answers.specs.Levels.{IsSmallManifold}
use Rattle.mesh_answers.specs.Replies.{IsAnswerTo, IsReplyOr}
use Rattle.mesh_answers.specs.StepCounts.{position_steps, texture_steps, where_textured}
use Rattle.mesh_answers.specs.Tracks.{IsPositionFault}
use Rattle.mesh_answers.proofs.RefineLemmas.{positions-found}
use Rattle.mesh_answers.proofs.ReplyLemmas.{refuses, replies}
use Rattle.mesh_answers.proofs.StepLemmas.{base_limit, position_limit, texture_limit, all-fit, all-taken, positions-fit}

-- a mesh without texture takes no steps for it
pub untextured : (mesh : ObjMesh) (n : ℕ) → mesh.has_texture ≡ false → where_textured mesh n ≡ 0
untextured mesh n none = ap (λ b. cond b n 0) none

-- the channels were made in this number of steps, and then the positions were refined
module _ {T E X F : Type 0} (mesh : ObjMesh) (options : RefineOptions) (old first second : ℕ)
    (made : Result T E) (tracks : StepsTaken made old first 0 (base_limit mesh options))
    (found : Result X F) (positions : StepsTaken found first second (position_steps options.by options.depth mesh) (position_limit mesh options)) where
  -- the positions are refused
  pub positions-end : IsSmallManifold options.depth mesh → (r : Result Reply FarFault) (fault : FarFault) → IsErr r → IsErrAnd r (λ g. g ≡ fault) →
      IsPositionFault options mesh (fault_of fault) → IsAnswerTo (Refine options) mesh r old second
  positions-end fine r fault err same is =
      refuses (Refine options) mesh old second (omega (arith, tracks.later, positions.later)) (positions-fit mesh options old first second tracks.most positions.most)
      r fault err same (positions-found mesh options fine (fault_of fault) is)

  -- the positions are there, and the rest answers
  pub refined-end : (x : X) → found ≡ Ok x → (r : Result Reply FarFault) (third : ℕ) → IsReplyOr (Refine options) mesh r →
      StepsTaken r second third (where_textured mesh (texture_steps options mesh)) (texture_limit mesh options) → IsAnswerTo (Refine options) mesh r old third
  refined-end x ok (Ok reply) third is rest =
      replies (Refine options) mesh old third (omega (arith, tracks.later, positions.later, rest.later))
      (all-fit mesh options old first second third tracks.most positions.most rest.most) reply is
      (all-taken mesh options old first second third tracks.later
      (subst (λ r. OnOk r (first + position_steps options.by options.depth mesh ≤ second)) ok positions.least) rest.least)
  refined-end x ok (Err fault) third is rest =
      refuses (Refine options) mesh old third (omega (arith, tracks.later, positions.later, rest.later))
      (all-fit mesh options old first second third tracks.most positions.most rest.most) (Err fault) fault refl refl is
