use Rattle.std.proofs.Common.{refl}
use Rattle.far_model.specs.Command.{Patch}
use Rattle.far_words.specs.View.{patch_of_code}
use Rattle.mesh_answers.proofs.MaskPointLemmas.{masks-evaluate, masks-taken}
use Rattle.mesh_answers.proofs.PatchPointLemmas.{patch-reply}
use Rattle.mesh_answers.proofs.ReplyLemmas.{replied}
use Rattle.mesh_answers.proofs.patches.patch_reply.Goals as goal

pub evaluate-values-requires : goal.evaluate-values-requires
evaluate-values-requires g c =
    masks-evaluate c.args.mesh.now c.args.options.now.depth _ c.args.rows c.requires.rows c.points.result.now c.points.ensures

pub returns-clause-reply : goal.returns-clause-reply
returns-clause-reply g c =
    let options = patch_of_code c.args.options.now in
    replied (Patch options) c.args.mesh.now c.evaluate-values.result c.with_places.result _ _ c.with_places.ensures c.evaluate-values.ensures.values
    (λ values is. patch-reply options c.args.mesh.now c.args.rows c.requires c.points.result.now c.points.ensures c.facts.ensures.common _ refl refl refl is)

pub returns-clause-steps : goal.returns-clause-steps
returns-clause-steps g c =
    masks-taken c.args.mesh.now c.args.options.now.depth _ c.args.rows c.requires.rows c.evaluate-values.result c.with_places.result _ c.args.steps.now
    c.evaluate-values.new.steps c.with_places.ensures c.evaluate-values.ensures.taken c.evaluate-values.ensures.steps c.evaluate-values.ensures.later
