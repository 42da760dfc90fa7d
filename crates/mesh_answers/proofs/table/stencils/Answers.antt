use Rattle.std.proofs.Common.{arith}
use Rattle.far_model.specs.Command.{Stencils}
use Rattle.mesh_answers.proofs.ReplyLemmas.{replies}
use Rattle.mesh_answers.proofs.TableLemmas.{table-reply}
use Rattle.mesh_answers.proofs.table.stencils.Goals as goal

pub returns : goal.returns
returns g c =
    let steps = c.compose.ensures.steps in
    replies (Stencils c.args.depth) c.args.mesh.now c.args.steps.now c.compose.new.steps steps.later steps.most _
    (table-reply c.args.mesh.now c.args.depth c.in_ok-composed.composed c.in_ok-composed.ensures.composed) (omega (arith, steps.later))
