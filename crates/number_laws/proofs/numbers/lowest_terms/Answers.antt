use Rattle.number_laws.proofs.DivisorLemmas.{lowest-fraction, lowest-coprime}
use Rattle.number_laws.proofs.numbers.lowest_terms.Goals as goal

pub returns-clause-same : goal.returns-clause-same
returns-clause-same c = lowest-fraction

pub returns-clause-coprime : goal.returns-clause-coprime
returns-clause-coprime c = lowest-coprime
