use Rattle.far_words.specs.View.{limit_of_code}
use Rattle.mesh_answers.proofs.LimitLemmas.{quads-there}
use Rattle.mesh_answers.proofs.MaskTableLemmas.{rows-there}
use Rattle.mesh_answers.proofs.ShortLimitLemmas.{short-can, short-replied, short-taken}
use Rattle.mesh_answers.proofs.limits.short_reply.Goals as goal

pub limit_points_of_quads-values-requires-clause-quads : goal.limit_points_of_quads-values-requires-clause-quads
limit_points_of_quads-values-requires-clause-quads g c = quads-there c.args.mesh.now c.args.options.now.depth c.args.composed c.requires.composed c.requires.range.0

pub limit_points_of_quads-values-requires-clause-boundary : goal.limit_points_of_quads-values-requires-clause-boundary
limit_points_of_quads-values-requires-clause-boundary g c = c.requires.composed.composed.boundary

pub limit_points_of_quads-values-requires-clause-each : goal.limit_points_of_quads-values-requires-clause-each
limit_points_of_quads-values-requires-clause-each g c = rows-there c.args.mesh.now c.args.options.now.depth c.args.composed c.requires.composed

pub limit_points_of_quads-values-requires-clause-can : goal.limit_points_of_quads-values-requires-clause-can
limit_points_of_quads-values-requires-clause-can g c =
    short-can c.args.mesh.now c.args.options.now.depth c.args.composed c.requires.composed c.requires.short c.points.result.now c.points.ensures

pub returns-clause-reply : goal.returns-clause-reply
returns-clause-reply g c =
    short-replied c.args.mesh.now (limit_of_code c.args.options.now) c.args.composed c.requires.composed c.requires.short c.requires.range.0 c.points.result.now c.points.ensures
    c.facts.ensures.common c.requires.range.2 c.limit_points_of_quads-values.result c.points_or_fault.result c.with_points.result c.limit_points_of_quads-values.ensures.values c.points_or_fault.ensures c.with_points.ensures

pub returns-clause-steps : goal.returns-clause-steps
returns-clause-steps g c =
    short-taken c.args.mesh.now c.args.options.now.depth c.args.composed c.requires.composed c.requires.short _ c.limit_points_of_quads-values.result c.points_or_fault.result c.with_points.result
    c.args.steps.now c.limit_points_of_quads-values.new.steps c.points_or_fault.ensures c.with_points.ensures c.limit_points_of_quads-values.ensures.taken
    c.limit_points_of_quads-values.ensures.steps c.limit_points_of_quads-values.ensures.later
