use Rattle.text_laws.proofs.NumberLemmas.{number-digits, number-some, number-back, number-index, index-back}
use Rattle.text_laws.proofs.numbers.whole_numbers_are_read_back.Goals as goal

pub returns-clause-digits : goal.returns-clause-digits
returns-clause-digits c = number-digits

pub returns-clause-some : goal.returns-clause-some
returns-clause-some c = number-some

pub returns-clause-number : goal.returns-clause-number
returns-clause-number c = number-back

pub returns-clause-index : goal.returns-clause-index
returns-clause-index c = number-index

pub returns-clause-place : goal.returns-clause-place
returns-clause-place c = index-back
