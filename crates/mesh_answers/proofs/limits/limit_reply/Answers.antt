use Rattle.std.proofs.Common.{refl}
use Rattle.far_model.specs.Command.{Limit}
use Rattle.far_words.specs.View.{limit_of_code}
use Rattle.mesh_answers.proofs.LimitPointLemmas.{limit-reply}
use Rattle.mesh_answers.proofs.MaskPointLemmas.{masks-evaluate, masks-taken}
use Rattle.mesh_answers.proofs.ReplyLemmas.{replied}
use Rattle.mesh_answers.proofs.limits.limit_reply.Goals as goal

pub evaluate-values-requires : goal.evaluate-values-requires
evaluate-values-requires g c =
    masks-evaluate c.args.mesh.now c.args.options.now.depth _ c.args.limits.table c.requires.limits.rows c.points.result.now c.points.ensures

pub returns-clause-reply : goal.returns-clause-reply
returns-clause-reply g c =
    let options = limit_of_code c.args.options.now in
    replied (Limit options) c.args.mesh.now c.evaluate-values.result c.with_points.result _ _ c.with_points.ensures c.evaluate-values.ensures.values
    (λ values is.
    limit-reply c.args.mesh.now options c.args.limits c.requires.limits c.points.result.now c.points.ensures c.facts.ensures.common
    _ _ refl refl refl refl refl is c.requires.range.2)

pub returns-clause-steps : goal.returns-clause-steps
returns-clause-steps g c =
    masks-taken c.args.mesh.now c.args.options.now.depth _ c.args.limits.table c.requires.limits.rows c.evaluate-values.result c.with_points.result _ c.args.steps.now
    c.evaluate-values.new.steps c.with_points.ensures c.evaluate-values.ensures.taken c.evaluate-values.ensures.steps c.evaluate-values.ensures.later
