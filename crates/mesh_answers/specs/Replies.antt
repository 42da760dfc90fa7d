-- The result of a command for a mesh: a reply or a fault.
use Rattle.std.specs.Prelude.{ℕ, ◌≡◌, List, None, Result, MatchResult}
use Rattle.far_model.specs.Command.{ReadCommand, MakeCommand}
use Rattle.subdiv_model.specs.ObjMesh.{ObjMesh}
use Rattle.far_model.specs.Answer.{command_text, made_text}
use Rattle.ratio128.specs.StepsTaken.{StepsTaken}
use Rattle.far_text.specs.Reply.{CanPut, reply_text}
use Rattle.far_text.specs.declared.reply.Reply.{Reply}
use Rattle.far_fault.specs.View.{fault_of}
use Rattle.far_fault.specs.declared.fault.FarFault.{FarFault}
use Rattle.mesh_answers.specs.Refusals.{refusal_of_mesh, refusal_of_made, IsFound}
use Rattle.mesh_answers.specs.StepCounts.{least_steps, step_limit, made_least, made_limit}

-- the text that a command writes for a mesh
unfoldable pub written_text : ReadCommand → ObjMesh → List ℕ
written_text command mesh = command_text command mesh

-- the text that a command writes for the mesh that it makes
unfoldable pub made_written : MakeCommand → List ℕ
made_written command = made_text command

-- the command does not refuse the mesh, and the reply has the command's text
pub record IsReplyTo (command : ReadCommand) (mesh : ObjMesh) (reply : Reply) : Type 0 where
  pub good : refusal_of_mesh command mesh ≡ None
  pub says : reply_text reply ≡ written_text command mesh
  pub put : CanPut reply

-- a reply to the mesh, or the refusal of the mesh
abbrev pub IsReplyOr : ReadCommand → ObjMesh → Result Reply FarFault → Type 0
IsReplyOr command mesh result = MatchResult result (λ reply. IsReplyTo command mesh reply) (λ fault. IsFound (fault_of fault) (refusal_of_mesh command mesh))

-- the command does not refuse the mesh that it makes, and the reply has the command's text
pub record IsMadeReply (command : MakeCommand) (reply : Reply) : Type 0 where
  pub good : refusal_of_made command ≡ None
  pub says : reply_text reply ≡ made_written command
  pub put : CanPut reply

-- a reply to the mesh, or the refusal of the mesh, within the bounds of steps
pub record IsAnswerTo (command : ReadCommand) (mesh : ObjMesh) (result : Result Reply FarFault) (old new : ℕ) : Type 0 where
  pub reply : MatchResult result (λ reply. IsReplyTo command mesh reply) (λ fault. IsFound (fault_of fault) (refusal_of_mesh command mesh))
  pub steps : StepsTaken result old new (least_steps command mesh) (step_limit command mesh)

-- a reply to the mesh that the command makes, or its refusal, within the bounds of steps
pub record IsMadeAnswer (command : MakeCommand) (result : Result Reply FarFault) (old new : ℕ) : Type 0 where
  pub reply : MatchResult result (λ reply. IsMadeReply command reply) (λ fault. IsFound (fault_of fault) (refusal_of_made command))
  pub steps : StepsTaken result old new (made_least command) (made_limit command)
