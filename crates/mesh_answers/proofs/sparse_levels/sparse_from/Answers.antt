use Rattle.far_fault.specs.View.{fault_of}
use Rattle.far_model.specs.Command.{Sparse}
use Rattle.far_words.specs.View.{sparse_of_code}
use Rattle.mesh_answers.specs.Refusals.{IsFound, refusal_of_mesh}
use Rattle.mesh_answers.specs.Replies.{IsReplyTo}
use Rattle.mesh_answers.proofs.RefusalLemmas.{handed-on}
use Rattle.mesh_answers.proofs.SparseReplyLemmas.{position-refused}
use Rattle.mesh_answers.proofs.sparse_levels.sparse_from.Goals as goal

pub returns-in_err-levels-clause-reply : goal.returns-in_err-levels-clause-reply
returns-in_err-levels-clause-reply g c =
    let options = sparse_of_code c.args.options.now in
    handed-on (λ reply. IsReplyTo (Sparse options) c.args.mesh.now reply) (λ fault. IsFound (fault_of fault) (refusal_of_mesh (Sparse options) c.args.mesh.now)) _ _
    c.from_residual.ensures.0 c.from_residual.ensures.1 (position-refused options c.args.mesh.now c.requires.tracks.mesh_is _ c.in_err-levels.ensures.levels)
