use Rattle.text_laws.proofs.ValueLemmas.{value-numeral, value-back, lowest-same_value, value-over}
use Rattle.text_laws.proofs.numbers.values_are_read_back.Goals as goal

pub returns-clause-numeral : goal.returns-clause-numeral
returns-clause-numeral c = value-numeral

pub returns-clause-terms : goal.returns-clause-terms
returns-clause-terms c = value-back

pub returns-clause-same : goal.returns-clause-same
returns-clause-same c = lowest-same_value

pub returns-clause-over : goal.returns-clause-over
returns-clause-over c = value-over
