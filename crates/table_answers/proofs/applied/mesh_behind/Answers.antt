use Rattle.std.proofs.Common.{arith}
use Rattle.obj_tags.specs.View.{fault_of}
use Rattle.table_answers.proofs.LineLemmas.{fault-line-few}
use Rattle.table_answers.proofs.applied.mesh_behind.Goals as goal

pub overflow_add-result : goal.overflow_add-result
overflow_add-result c =
    let refused = rw c.in-Err-Obj.field-0-is at c.in-Err-Obj.ensures.refused in
    record { fits = omega (arith, c.requires, c.facts.ensures.rows_few, c.rows-lines.ensures, fault-line-few c.args.text.now (fault_of c.in-Err-Obj.field-0-0) refused) }
