use Rattle.leaf_laws.proofs.FirstLemmas.{leaf-first}
use Rattle.leaf_laws.proofs.leaves.leaves_are_first.Goals as goal

pub returns : goal.returns
returns c = λ search is. leaf-first search.grid search.further search.base search.predicate search.at is
