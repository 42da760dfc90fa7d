use Rattle.std.proofs.Common.{sym}
use Rattle.far_text.proofs.SparseLemmas.{sparse-text}
use Rattle.far_text.proofs.laws.lines_of_sparse_levels.Goals as goal

pub returns : goal.returns
returns c = λ decimals points base predicate depth. sym (sparse-text decimals points base predicate depth)
