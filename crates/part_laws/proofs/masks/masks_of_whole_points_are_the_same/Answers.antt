use Rattle.part_laws.proofs.MaskLemmas.{same-vertex-mask}
use Rattle.part_laws.proofs.masks.masks_of_whole_points_are_the_same.Goals as goal

pub returns : goal.returns
returns c = λ part scheme at. same-vertex-mask part.name part.faces part.level part.whole part.is_part scheme at.point at.is_there at.has_all
