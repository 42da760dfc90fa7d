use Rattle.std.proofs.Common.{arith}
use Rattle.table_file.specs.View.{cause_of}
use Rattle.table_answers.proofs.LineLemmas.{table-line-few}
use Rattle.table_answers.proofs.verified.stored_table.Goals as goal

pub overflow_add-result : goal.overflow_add-result
overflow_add-result c =
    let refused = rw c.in-Err-Table.field-0-is at c.in-Err-Table.ensures in
    record { fits = omega (arith, c.requires.few, table-line-few c.args.text.now (record { line = c.in-Err-Table.line; cause = cause_of c.in-Err-Table.cause }) refused) }
