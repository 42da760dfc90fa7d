use Rattle.leaf_laws.proofs.FirstLemmas.{leaves-some}
use Rattle.leaf_laws.proofs.leaves.locations_have_leaves.Goals as goal

pub returns : goal.returns
returns c = λ search is. leaves-some search.grid search.further search.base search.predicate search.at is
