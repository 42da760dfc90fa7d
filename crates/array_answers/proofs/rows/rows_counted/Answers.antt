use Rattle.array_answers.specs.View.{rows_of_code}
use Rattle.array_answers.proofs.RowLemmas.{array-rows}
use Rattle.array_answers.proofs.rows.rows_counted.Goals as goal

pub returns-in-Ok : goal.returns-in-Ok
returns-in-Ok g c = array-rows c.args.arrays.now c.in-Ok.mesh c.in-Ok.ensures (rows_of_code c.args.rows.now) c.rows_of_mesh.result c.rows_of_mesh.ensures
