use Rattle.std.proofs.Common.{rules}
use Rattle.patch_bspline.proofs.regular.is_quad.Goals as goal

pub returns : goal.returns
returns c = search rules
