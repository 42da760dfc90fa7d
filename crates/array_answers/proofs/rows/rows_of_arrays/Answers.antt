use Rattle.array_answers.specs.View.{rows_of_code}
use Rattle.array_answers.proofs.RowLemmas.{asked-rows}
use Rattle.array_answers.proofs.rows.rows_of_arrays.Goals as goal

pub returns-in-Some : goal.returns-in-Some
returns-in-Some c = asked-rows c.args.request.now c.args.arrays.now (rows_of_code c.in-Some.rows) c.rows_counted.result c.in-Some.ensures.rows c.rows_counted.ensures
