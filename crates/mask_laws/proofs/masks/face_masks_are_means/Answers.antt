use Rattle.std.proofs.Common.{get_or, []}
use Rattle.mask_laws.proofs.MaskLemmas.{mean-corners}
use Rattle.mask_laws.proofs.masks.face_masks_are_means.Goals as goal

pub returns : goal.returns
returns c level f some = mean-corners (get_or level.polygons f []) some
