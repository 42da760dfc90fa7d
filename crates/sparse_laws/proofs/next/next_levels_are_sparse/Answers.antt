use Rattle.sparse_laws.proofs.NextSparseLemmas.{next-sparse}
use Rattle.sparse_laws.proofs.next.next_levels_are_sparse.Goals as goal

pub returns : goal.returns
returns c = next-sparse
