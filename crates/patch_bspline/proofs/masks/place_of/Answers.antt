use Rattle.std.proofs.Common.{rules}
use Rattle.patch_bspline.proofs.masks.place_of.Goals as goal

pub returns : goal.returns
returns c = search rules
