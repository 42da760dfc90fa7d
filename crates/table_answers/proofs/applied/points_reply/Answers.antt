use Rattle.std.proofs.Common.{refl}
use Rattle.table_answers.specs.Answers.{IsOver, IsReplyOf, evaluated}
use Rattle.table_answers.proofs.ApplyLemmas.{evaluates, over-is, points-replied, reply-is}
use Rattle.table_answers.proofs.applied.points_reply.Goals as goal

pub evaluate-values-requires : goal.evaluate-values-requires
evaluate-values-requires g c = evaluates c.args.table c.args.mesh.now c.requires c.points.result.now c.points.ensures

pub returns-clause-reply : goal.returns-clause-reply
returns-clause-reply g c =
    points-replied (IsReplyOf (evaluated c.args.table c.args.mesh.now)) c.evaluate-values.result c.with_points.result _ _ c.with_points.ensures c.evaluate-values.ensures.values
    (λ values is. reply-is c.args.table c.args.mesh.now c.requires c.points.result.now c.points.ensures c.facts.ensures.common _ is _ refl refl)

pub returns-clause-over : goal.returns-clause-over
returns-clause-over g c =
    points-replied (IsOver c.args.table c.args.mesh.now) c.evaluate-values.result c.with_points.result _ _ c.with_points.ensures c.evaluate-values.ensures.values
    (λ values is. over-is c.args.table c.args.mesh.now c.requires c.points.result.now c.points.ensures c.facts.ensures.common _ is (record { values = values; common = c.args.mesh.now.common }) refl refl)
