use Rattle.part_laws.proofs.MaskLemmas.{same-face-mask}
use Rattle.part_laws.proofs.masks.face_masks_are_the_same.Goals as goal

pub returns : goal.returns
returns c = λ part k inside. same-face-mask part.name part.faces part.level part.whole part.is_part k inside
