use Rattle.mask_laws.proofs.JoinedLemmas.{joined-total, joined-number, joined-value, order-value}
use Rattle.mask_laws.proofs.masks.sums_do_not_see_how_terms_are_joined.Goals as goal

pub returns-clause-weights : goal.returns-clause-weights
returns-clause-weights c = joined-total

pub returns-clause-numbers : goal.returns-clause-numbers
returns-clause-numbers c = joined-number

pub returns-clause-value : goal.returns-clause-value
returns-clause-value c = λ values terms q. joined-value values.value terms q values.above_zero

pub returns-clause-order : goal.returns-clause-order
returns-clause-order c = λ values first second q. order-value values.value first second q values.above_zero
