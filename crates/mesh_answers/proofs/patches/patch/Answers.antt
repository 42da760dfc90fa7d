use Rattle.std.proofs.Common.{arith}
use Rattle.far_fault.specs.declared.fault.FarFault.TheVariants as fault
use Rattle.far_model.specs.Command.{Patch}
use Rattle.far_words.specs.View.{patch_of_code}
use Rattle.mesh_answers.proofs.ReplyLemmas.{refuses, replies}
use Rattle.mesh_answers.proofs.patches.patch.Goals as goal

pub returns-in_err-rows : goal.returns-in_err-rows
returns-in_err-rows g c =
    let options = patch_of_code c.args.options.now in
    let rows = c.compose_patch.ensures.steps in
    refuses (Patch options) c.args.mesh.now c.args.steps.now c.compose_patch.new.steps rows.later (omega (arith, rows.most)) _ _
    c.from_residual.ensures.0 c.from_residual.ensures.1 c.in_err-rows.ensures.rows

pub returns-in_err-patch_reply : goal.returns-in_err-patch_reply
returns-in_err-patch_reply g c =
    let options = patch_of_code c.args.options.now in
    let rows = c.compose_patch.ensures.steps in
    let reply = c.patch_reply.ensures.steps in
    refuses (Patch options) c.args.mesh.now c.args.steps.now c.patch_reply.new.steps (omega (arith, rows.later, reply.later)) (omega (arith, rows.most, reply.most))
    _ fault.Memory c.from_residual-in_err-patch_reply.ensures.0 c.from_residual-in_err-patch_reply.ensures.1 tt

pub returns : goal.returns
returns g c =
    let options = patch_of_code c.args.options.now in
    let rows = c.compose_patch.ensures.steps in
    let reply = c.in_ok-patch_reply.ensures.steps in
    replies (Patch options) c.args.mesh.now c.args.steps.now c.patch_reply.new.steps (omega (arith, rows.later, reply.later)) (omega (arith, rows.most, reply.most))
    _ c.in_ok-patch_reply.ensures.reply (omega (arith, rows.later, reply.least))
