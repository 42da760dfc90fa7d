use Rattle.mask_laws.proofs.VertexLemmas.{mean-vertex_mask}
use Rattle.mask_laws.proofs.masks.vertex_masks_are_means.Goals as goal

pub returns-clause-catmull_clark : goal.returns-clause-catmull_clark
returns-clause-catmull_clark c = λ level v proper interior. mean-vertex_mask level v proper interior.now interior.next
