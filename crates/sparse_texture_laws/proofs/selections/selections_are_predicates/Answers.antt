use Rattle.sparse_texture_laws.proofs.PredicateLemmas.{selection-predicate}
use Rattle.sparse_texture_laws.proofs.selections.selections_are_predicates.Goals as goal

pub returns : goal.returns
returns c = selection-predicate
