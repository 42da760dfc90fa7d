use Rattle.std.proofs.Common.{length}
use Rattle.row_arrays.specs.Rows.{apply_fault}
use Rattle.far_c.specs.Rows.{record_of_row_fault}
use Rattle.far_c.proofs.StatusLemmas.{none-answered, fault-answered}
use Rattle.far_c.proofs.rows.far_apply_rows.Goals as goal

pub returns-in-Ok-clause-answer : goal.returns-in-Ok-clause-answer
returns-in-Ok-clause-answer c =
    none-answered record_of_row_fault (apply_fault c.args.rows.now c.args.controls.now c.args.range.now (length c.args.out.now)) _ c.in-Ok.ensures.fault

pub returns-in-Err-clause-answer : goal.returns-in-Err-clause-answer
returns-in-Err-clause-answer c =
    fault-answered record_of_row_fault (apply_fault c.args.rows.now c.args.controls.now c.args.range.now (length c.args.out.now)) c.in-Err.found
    c.record_of_row_fault.result c.in-Err.ensures.fault c.record_of_row_fault.ensures.row c.record_of_row_fault.ensures.status
