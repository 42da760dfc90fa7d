use Rattle.sparse_laws.proofs.WrittenLemmas.{written-refined, written-last}
use Rattle.sparse_laws.proofs.written.written_levels_are_the_same.Goals as goal

pub returns-clause-refined : goal.returns-clause-refined
returns-clause-refined c = λ tested. written-refined tested.refinement tested.by

pub returns-clause-last : goal.returns-clause-last
returns-clause-last c = written-last
