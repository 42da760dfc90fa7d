use Rattle.std.proofs.Common.{sym, subst}
use Rattle.far_model.specs.Answer.{table_faults}
use Rattle.mesh_answers.specs.Refusals.{IsFound, refusal_by}
use Rattle.mesh_answers.proofs.RefusalLemmas.{small-manifold}
use Rattle.mesh_answers.proofs.TableLemmas.{table-composed, table-failed, table-steps}
use Rattle.mesh_answers.proofs.table.compose_from.Goals as goal

pub returns-in-Ok-clause-composed : goal.returns-in-Ok-clause-composed
returns-in-Ok-clause-composed g c =
    table-composed c.args.mesh.now c.args.depth (small-manifold c.args.depth c.args.mesh.now c.args.level c.requires.level) c.position_channel.result c.position_channel.ensures
    c.in-Ok.composed c.in-Ok.ensures.composed c.facts.ensures

pub returns-in-Ok-clause-steps : goal.returns-in-Ok-clause-steps
returns-in-Ok-clause-steps g c =
    table-steps c.args.mesh.now c.args.depth c.position_channel.result c.position_channel.ensures c.args.steps.now c.compose_channel.new.steps _ c.compose_channel.ensures.steps

pub returns-in-Err-clause-composed : goal.returns-in-Err-clause-composed
returns-in-Err-clause-composed g c =
    subst (λ fault. IsFound fault (refusal_by (table_faults c.args.depth c.args.mesh.now) c.args.mesh.now)) (sym c.fault_of_walk.ensures)
    (table-failed c.args.mesh.now c.args.depth (small-manifold c.args.depth c.args.mesh.now c.args.level c.requires.level) c.position_channel.result c.position_channel.ensures
    c.in-Err.fault c.in-Err.ensures.composed)

pub returns-in-Err-clause-steps : goal.returns-in-Err-clause-steps
returns-in-Err-clause-steps g c =
    table-steps c.args.mesh.now c.args.depth c.position_channel.result c.position_channel.ensures c.args.steps.now c.compose_channel.new.steps _ c.compose_channel.ensures.steps
