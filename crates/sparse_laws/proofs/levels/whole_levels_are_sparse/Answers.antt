use Rattle.sparse_laws.proofs.BaseLemmas.{base-sparse}
use Rattle.sparse_laws.proofs.levels.whole_levels_are_sparse.Goals as goal

pub returns : goal.returns
returns c = base-sparse
