use Rattle.far_fault.specs.View.{fault_of}
use Rattle.array_answers.specs.Asked.{PointRows}
use Rattle.array_answers.proofs.RowLemmas.{point-rows, rows-refused}
use Rattle.array_answers.proofs.rows.point_rows.Goals as goal

pub returns-in-Ok : goal.returns-in-Ok
returns-in-Ok g c = point-rows c.args.mesh.now c.args.depth c.in-Ok.composed c.table_of.result c.in-Ok.ensures.composed c.table_of.ensures

pub returns-in-Err : goal.returns-in-Err
returns-in-Err g c = rows-refused (PointRows c.args.depth) c.args.mesh.now (fault_of c.in-Err.fault) c.record_of.result c.in-Err.ensures.composed c.record_of.ensures.numbers
