use Rattle.std.proofs.Common.{rules, subst, sym}
use Rattle.table_arrays.specs.Places as table
use Rattle.far_c.proofs.StatusLemmas.{table-answered, table-refused}
use Rattle.array_answers.specs.Asked.{rows_asked}
use Rattle.far_c.proofs.RefusalLemmas.{none-kept, request-status}
use Rattle.far_c.proofs.RestLemmas.{double-kept}
use Rattle.far_c.proofs.tables.far_table_doubles.Goals as goal

pub returns-in-Ok-clause-answer : goal.returns-in-Ok-clause-answer
returns-in-Ok-clause-answer c =
    table-answered c.args.mesh.now c.args.request.now _ table.are_doubles_long_enough table.AreDoublesWritten c.args.places.now c.put_double_table-done.new.places c.in-Ok.rows c.counts_of.result c.put_double_table-done.result c.written.result
    c.in-Ok.ensures c.counts_of.ensures c.put_double_table-done.ensures.long_enough c.put_double_table-done.ensures.written c.put_double_table-done.ensures.kept c.written.ensures.status

pub returns-in-Err-clause-answer : goal.returns-in-Err-clause-answer
returns-in-Err-clause-answer c = table-refused c.args.mesh.now c.args.request.now c.in-Err.found table.are_doubles_long_enough table.AreDoublesWritten c.args.places.now _ c.in-Err.ensures

pub returns-in-Err-clause-stays : goal.returns-in-Err-clause-stays
returns-in-Err-clause-stays c =
    let none = none-kept c.in-Err.found.status (request-status (rows_asked c.args.request.now) c.args.mesh.now c.in-Err.found c.in-Err.ensures) in
    search (rules, none)

pub returns-in-Ok-clause-rest : goal.returns-in-Ok-clause-rest
returns-in-Ok-clause-rest c = subst (λ counts. table.IsDoubleRestKept counts c.args.places.now c.put_double_table-done.new.places) (sym c.counts_of.ensures) c.put_double_table-done.ensures.rest

pub returns-in-Err-clause-rest : goal.returns-in-Err-clause-rest
returns-in-Err-clause-rest c = double-kept _ c.args.places.now
