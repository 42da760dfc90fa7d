use Rattle.std.proofs.Common.{rules}
use Rattle.far_words.specs.View.{sparse_of_code}
use Rattle.array_answers.proofs.SparseLemmas.{sparse-of}
use Rattle.array_answers.proofs.sparse.sparse_of_mesh.Goals as goal

pub returns-in-Ok : goal.returns-in-Ok
returns-in-Ok g c = sparse-of (sparse_of_code c.args.options.now) c.args.mesh.now _ c.requires c.scale.ensures (search rules)
