use Rattle.mask_laws.proofs.MaskLemmas.{mean-edge_mask, mean-at_least_one}
use Rattle.mask_laws.proofs.masks.edge_masks_are_means.Goals as goal

pub returns-clause-two_faces : goal.returns-clause-two_faces
returns-clause-two_faces c = mean-edge_mask

pub returns-clause-semi_sharp : goal.returns-clause-semi_sharp
returns-clause-semi_sharp c = mean-at_least_one
