use Rattle.sharpness_laws.proofs.MaskOrderLemmas.{same-corners}
use Rattle.sharpness_laws.proofs.masks.face_masks_do_not_see_the_order.Goals as goal

pub returns : goal.returns
returns c = same-corners
