use Rattle.far_fault.specs.View.{fault_of}
use Rattle.far_model.specs.Command.{Refine}
use Rattle.far_words.specs.View.{refine_of_code}
use Rattle.mesh_answers.specs.Refusals.{IsFound, refusal_of_mesh}
use Rattle.mesh_answers.specs.Replies.{IsReplyTo}
use Rattle.mesh_answers.proofs.RefineLemmas.{texture-found}
use Rattle.mesh_answers.proofs.RefusalLemmas.{handed-on}
use Rattle.mesh_answers.proofs.refined.textured_reply.Goals as goal

pub returns-in_err-texture-clause-reply : goal.returns-in_err-texture-clause-reply
returns-in_err-texture-clause-reply g c =
    let options = refine_of_code c.args.options.now in
    handed-on (λ reply. IsReplyTo (Refine options) c.args.mesh.now reply) (λ fault. IsFound (fault_of fault) (refusal_of_mesh (Refine options) c.args.mesh.now)) _ _
    c.from_residual.ensures.0 c.from_residual.ensures.1 (texture-found c.args.mesh.now options c.requires.fine c.requires.positions.fine _ c.in_err-texture.ensures.texture)
