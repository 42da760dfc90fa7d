use Rattle.std.proofs.Common.{arith}
use Rattle.subdiv_model.specs.Limit.{limit_causes}
use Rattle.limit_stencils.proofs.CauseLemmas.{first-cause, handed-on, none-found}
use Rattle.limit_stencils.proofs.cause.check_points.Goals as goal

pub returns-in_err-check_vertex : goal.returns-in_err-check_vertex
returns-in_err-check_vertex c =
    let level = c.args.level.now.level in
    handed-on (limit_causes level) c.from_residual.result c.in_err-check_vertex.field-0.0 c.from_residual.ensures.1
    (first-cause level c.loop-v.v c.in_err-check_vertex.field-0.0 (omega (arith, c.loop-v-test.true, c.points-v-end.ensures)) c.loop-v.invariant c.in_err-check_vertex.ensures)

pub returns : goal.returns
returns c = none-found c.args.level.now.level c.loop-v.v (omega (arith, c.loop-v-test.false, c.points-v-end.ensures)) c.loop-v.invariant
