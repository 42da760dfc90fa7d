use Rattle.std.proofs.Common.{◌∙◌}
use Rattle.mesh_answers.proofs.SummaryLemmas.{evaluated-steps, failed-evaluation, points-evaluate, summary-is, values-some}
use Rattle.mesh_answers.proofs.sheet.summary_at.Goals as goal

pub evaluate-requires : goal.evaluate-requires
evaluate-requires g c = points-evaluate c.args.mesh.now c.args.depth c.args.composed.now c.requires.composed c.points.result.now c.points.ensures

pub returns-in_err-values-clause-steps : goal.returns-in_err-values-clause-steps
returns-in_err-values-clause-steps g c =
    failed-evaluation c.args.mesh.now c.args.depth c.args.composed.now c.requires.composed c.args.steps.now c.evaluate.new.steps _ c.from_residual.ensures.0
    c.evaluate.ensures.later c.evaluate.ensures.steps

pub last_of-requires : goal.last_of-requires
last_of-requires g c =
    values-some c.args.mesh.now c.args.depth c.args.composed.now c.requires.composed c.points.result.now c.points.ensures c.in_ok-values.values.items c.in_ok-values.ensures.values c.requires.some

pub returns-clause-summary : goal.returns-clause-summary
returns-clause-summary g c =
    summary-is c.args.mesh.now c.args.depth c.args.composed.now c.requires.composed
    c.points.result.now c.points.ensures c.in_ok-values.values.items c.in_ok-values.ensures.values c.summary_of.result c.requires.whole c.requires.some
    c.summary_of.ensures.points c.summary_of.ensures.faces c.summary_of.ensures.depth c.summary_of.ensures.level_points c.summary_of.ensures.level_faces
    c.summary_of.ensures.entries c.summary_of.ensures.greatest (λ none. c.summary_of.ensures.last ∙ c.last_of.ensures none)

pub returns-clause-steps : goal.returns-clause-steps
returns-clause-steps g c =
    evaluated-steps c.args.mesh.now c.args.depth c.args.composed.now c.requires.composed c.args.steps.now c.evaluate.new.steps _ c.in_ok-values.ensures.taken
