use Rattle.sparse_laws.proofs.SelectedLemmas.{inner-facts}
use Rattle.sparse_laws.proofs.levels.facts_of_inner_faces_are_the_same.Goals as goal

pub returns : goal.returns
returns c = inner-facts
