use Rattle.mask_laws.proofs.BlendLemmas.{mean-blend}
use Rattle.mask_laws.proofs.masks.blends_are_means.Goals as goal

pub returns : goal.returns
returns c = mean-blend
