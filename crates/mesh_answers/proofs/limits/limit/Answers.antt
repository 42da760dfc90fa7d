use Rattle.std.proofs.Common.{arith}
use Rattle.subdiv_model.specs.Limit.{limit_faults}
use Rattle.far_fault.specs.declared.fault.FarFault.TheVariants as fault
use Rattle.far_model.specs.Answer.{positions_of, table_faults}
use Rattle.far_model.specs.Command.{Limit}
use Rattle.far_words.specs.View.{limit_of_code}
use Rattle.mesh_answers.proofs.MaskTableLemmas.{rows-there}
use Rattle.mesh_answers.proofs.RefusalLemmas.{found-before}
use Rattle.mesh_answers.proofs.ReplyLemmas.{refuses, replies}
use Rattle.mesh_answers.proofs.ShortLimitLemmas.{steps-behind}
use Rattle.mesh_answers.proofs.limits.limit.Goals as goal

pub returns-in_err-composed : goal.returns-in_err-composed
returns-in_err-composed g c =
    let mesh = c.args.mesh.now in
    let options = limit_of_code c.args.options.now in
    let composed = c.compose.ensures.steps in
    refuses (Limit options) mesh c.args.steps.now c.compose.new.steps composed.later (omega (arith, composed.most)) _ _ c.from_residual.ensures.0 c.from_residual.ensures.1
    (found-before (table_faults options.depth mesh) (limit_faults (positions_of mesh) options.depth) mesh _ c.in_err-composed.ensures.composed)

pub has_short_limits-requires : goal.has_short_limits-requires
has_short_limits-requires g c = rows-there c.args.mesh.now c.args.options.now.depth c.in_ok-composed.composed c.in_ok-composed.ensures.composed

pub returns-then-has_short_limits : goal.returns-then-has_short_limits
returns-then-has_short_limits g c =
    let composed = c.compose.ensures.steps in
    record {
      reply = c.short_reply.ensures.reply;
      steps = steps-behind c.short_reply.result c.args.steps.now c.compose.new.steps c.short_reply.new.steps _ _ composed.later composed.most c.short_reply.ensures.steps;
    }

pub returns-in_err-limits : goal.returns-in_err-limits
returns-in_err-limits g c =
    let options = limit_of_code c.args.options.now in
    let composed = c.compose.ensures.steps in
    refuses (Limit options) c.args.mesh.now c.args.steps.now c.compose.new.steps composed.later (omega (arith, composed.most)) _ _
    c.from_residual-in_err-limits.ensures.0 c.from_residual-in_err-limits.ensures.1 c.in_err-limits.ensures

pub returns-in_err-limit_reply : goal.returns-in_err-limit_reply
returns-in_err-limit_reply g c =
    let options = limit_of_code c.args.options.now in
    let composed = c.compose.ensures.steps in
    let reply = c.limit_reply.ensures.steps in
    refuses (Limit options) c.args.mesh.now c.args.steps.now c.limit_reply.new.steps (omega (arith, composed.later, reply.later)) (omega (arith, composed.most, reply.most))
    _ fault.Memory c.from_residual-in_err-limit_reply.ensures.0 c.from_residual-in_err-limit_reply.ensures.1 tt

pub returns : goal.returns
returns g c =
    let options = limit_of_code c.args.options.now in
    let composed = c.compose.ensures.steps in
    let reply = c.in_ok-limit_reply.ensures.steps in
    replies (Limit options) c.args.mesh.now c.args.steps.now c.limit_reply.new.steps (omega (arith, composed.later, reply.later)) (omega (arith, composed.most, reply.most))
    _ c.in_ok-limit_reply.ensures.reply (omega (arith, composed.later, reply.least))
