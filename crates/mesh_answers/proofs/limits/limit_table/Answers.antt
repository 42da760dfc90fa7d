use Rattle.std.proofs.Common.{sym, subst}
use Rattle.mesh_answers.specs.Limits.{limit_refusal}
use Rattle.mesh_answers.specs.Refusals.{IsFound}
use Rattle.mesh_answers.proofs.LimitLemmas.{limit-failed, limits-tested, quads-there}
use Rattle.mesh_answers.proofs.MaskTableLemmas.{rows-there}
use Rattle.mesh_answers.proofs.limits.limit_table.Goals as goal

pub limit_table_of_quads-requires-clause-quads : goal.limit_table_of_quads-requires-clause-quads
limit_table_of_quads-requires-clause-quads c = quads-there c.args.mesh.now c.args.depth c.args.composed.now c.requires.composed c.requires.depth

pub limit_table_of_quads-requires-clause-complete : goal.limit_table_of_quads-requires-clause-complete
limit_table_of_quads-requires-clause-complete c = c.requires.composed.composed.complete

pub limit_table_of_quads-requires-clause-boundary : goal.limit_table_of_quads-requires-clause-boundary
limit_table_of_quads-requires-clause-boundary c = c.requires.composed.composed.boundary

pub limit_table_of_quads-requires-clause-each : goal.limit_table_of_quads-requires-clause-each
limit_table_of_quads-requires-clause-each c = rows-there c.args.mesh.now c.args.depth c.args.composed.now c.requires.composed

pub returns-in-Ok : goal.returns-in-Ok
returns-in-Ok c =
    limits-tested c.args.mesh.now c.args.depth c.args.composed.now c.requires.composed c.in-Ok.table c.in-Ok.ensures c.most_of.result c.fitting.result c.most_of.ensures c.fitting.ensures

pub returns-in-Err : goal.returns-in-Err
returns-in-Err c =
    subst (λ fault. IsFound fault (limit_refusal c.args.depth c.args.mesh.now)) (sym c.limit_fault.ensures)
    (limit-failed c.args.mesh.now c.args.depth c.args.composed.now c.requires.composed c.in-Err.fault c.in-Err.ensures)
