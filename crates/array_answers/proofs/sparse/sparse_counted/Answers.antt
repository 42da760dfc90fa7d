use Rattle.far_words.specs.View.{sparse_of_code}
use Rattle.array_answers.proofs.SparseLemmas.{sparse-in}
use Rattle.array_answers.proofs.sparse.sparse_counted.Goals as goal

pub returns-in-Ok : goal.returns-in-Ok
returns-in-Ok g c = sparse-in (sparse_of_code c.args.options.now) c.args.arrays.now c.in-Ok.mesh c.sparse_of_mesh.result c.in-Ok.ensures c.sparse_of_mesh.ensures
