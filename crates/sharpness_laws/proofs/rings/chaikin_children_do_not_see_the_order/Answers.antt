use Rattle.sharpness_laws.proofs.OrderLemmas.{chaikin-any_order, overflow-any_order, half_child-any_order, child_ring-permuted}
use Rattle.sharpness_laws.proofs.rings.chaikin_children_do_not_see_the_order.Goals as goal

pub returns-clause-child : goal.returns-clause-child
returns-clause-child c ring other s h = chaikin-any_order ring other h s

pub returns-clause-overflow : goal.returns-clause-overflow
returns-clause-overflow c = overflow-any_order

pub returns-clause-half : goal.returns-clause-half
returns-clause-half c method ring other s h = half_child-any_order ring other h method s

pub returns-clause-ring : goal.returns-clause-ring
returns-clause-ring c method ring other h = child_ring-permuted ring other h method
