use Rattle.sharpness_laws.proofs.MaskOrderLemmas.{same-edge}
use Rattle.sharpness_laws.proofs.masks.edge_masks_do_not_see_the_direction.Goals as goal

pub returns : goal.returns
returns c s a b faces others h = same-edge a b faces others h s
