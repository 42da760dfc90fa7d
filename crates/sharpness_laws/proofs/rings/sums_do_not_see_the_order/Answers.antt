use Rattle.sharpness_laws.proofs.OrderLemmas.{sum-any_order, denominator-any_order}
use Rattle.sharpness_laws.proofs.rings.sums_do_not_see_the_order.Goals as goal

pub returns-clause-sum : goal.returns-clause-sum
returns-clause-sum c = sum-any_order

pub returns-clause-denominator : goal.returns-clause-denominator
returns-clause-denominator c = denominator-any_order
