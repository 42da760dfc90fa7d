use Rattle.part_laws.proofs.MaskLemmas.{same-edge-mask}
use Rattle.part_laws.proofs.masks.masks_of_whole_edges_are_the_same.Goals as goal

pub returns : goal.returns
returns c = λ part scheme along. same-edge-mask part.name part.faces part.level part.whole part.is_part scheme along.edge along.is_edge along.has_all
