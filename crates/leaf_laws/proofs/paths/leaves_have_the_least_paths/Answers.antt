use Rattle.leaf_laws.proofs.PathLemmas.{leaf-least}
use Rattle.leaf_laws.proofs.paths.leaves_have_the_least_paths.Goals as goal

pub returns : goal.returns
returns c = λ search is. leaf-least search.grid search.further search.base search.predicate search.at is
