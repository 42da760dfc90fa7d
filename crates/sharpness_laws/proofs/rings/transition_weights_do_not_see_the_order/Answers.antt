use Rattle.sharpness_laws.proofs.OrderLemmas.{weight-any_order, weight_overflow-any_order}
use Rattle.sharpness_laws.proofs.rings.transition_weights_do_not_see_the_order.Goals as goal

pub returns-clause-weight : goal.returns-clause-weight
returns-clause-weight c = λ vertex. weight-any_order (λ edge. edge.0) (λ edge. edge.1) vertex.0 vertex.1

pub returns-clause-overflow : goal.returns-clause-overflow
returns-clause-overflow c = λ vertex. weight_overflow-any_order (λ edge. edge.0) (λ edge. edge.1) vertex.0 vertex.1
