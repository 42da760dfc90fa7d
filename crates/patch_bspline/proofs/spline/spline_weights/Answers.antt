use Rattle.std.proofs.Common.{rules}
use Rattle.patch_bspline.proofs.spline.spline_weights.Goals as goal

pub returns : goal.returns
returns c = search rules
