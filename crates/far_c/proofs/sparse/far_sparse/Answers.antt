use Rattle.std.proofs.Common.{rules}
use Rattle.far_c.proofs.SparseLemmas.{sparse-answered, sparse-refused}
use Rattle.array_answers.specs.Sparse.{sparse_asked}
use Rattle.far_c.proofs.RefusalLemmas.{none-kept, sparse-status}
use Rattle.far_c.proofs.sparse.far_sparse.Goals as goal

pub returns-in-Ok-clause-answer : goal.returns-in-Ok-clause-answer
returns-in-Ok-clause-answer c =
    sparse-answered c.args.mesh.now c.args.request.now _ c.args.places.now c.put_sparse-done.new.places c.in-Ok.sparse c.deref.result.now c.deref-in-Ok.result.now
    c.sparse_counts_of.result c.put_sparse-done.result c.written.result c.in-Ok.ensures c.deref.ensures.value c.deref-in-Ok.ensures.value c.sparse_counts_of.ensures
    c.put_sparse-done.ensures.long_enough c.put_sparse-done.ensures.written c.put_sparse-done.ensures.kept c.written.ensures.status

pub returns-in-Err-clause-answer : goal.returns-in-Err-clause-answer
returns-in-Err-clause-answer c = sparse-refused c.args.mesh.now c.args.request.now c.in-Err.found c.args.places.now _ c.in-Err.ensures

pub returns-in-Err-clause-stays : goal.returns-in-Err-clause-stays
returns-in-Err-clause-stays c =
    let none = none-kept c.in-Err.found.status (sparse-status (sparse_asked c.args.request.now) c.args.mesh.now c.in-Err.found c.in-Err.ensures) in
    search (rules, none)
