use Rattle.far_fault.specs.View.{fault_of}
use Rattle.far_model.specs.Command.{Map}
use Rattle.far_words.specs.View.{map_of_code}
use Rattle.mesh_answers.specs.Refusals.{IsFound, refusal_of_mesh}
use Rattle.mesh_answers.specs.Replies.{IsReplyTo}
use Rattle.mesh_answers.proofs.LeafLemmas.{levels-refused}
use Rattle.mesh_answers.proofs.RefusalLemmas.{handed-on}
use Rattle.mesh_answers.proofs.leaf_map.map_from.Goals as goal

pub returns-in_err-found-clause-reply : goal.returns-in_err-found-clause-reply
returns-in_err-found-clause-reply g c mesh accepted =
    let options = map_of_code c.args.options.now in
    handed-on (λ reply. IsReplyTo (Map options) mesh reply) (λ fault. IsFound (fault_of fault) (refusal_of_mesh (Map options) mesh)) _ _
    c.from_residual.ensures.0 c.from_residual.ensures.1 (levels-refused options mesh c.args.level accepted _ (c.in_err-found.ensures.found mesh accepted))
