use Rattle.mask_laws.proofs.VertexLemmas.{weight-bounds}
use Rattle.mask_laws.proofs.masks.transition_weights_are_above_zero.Goals as goal

pub returns-clause-above_zero : goal.returns-clause-above_zero
returns-clause-above_zero c = λ t. (weight-bounds t.method t.vertex t.ring t.proper_vertex t.proper_ring t.masks_differ).0

pub returns-clause-at_most_one : goal.returns-clause-at_most_one
returns-clause-at_most_one c = λ t. (weight-bounds t.method t.vertex t.ring t.proper_vertex t.proper_ring t.masks_differ).1
