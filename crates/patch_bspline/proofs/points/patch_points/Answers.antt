use Rattle.std.proofs.Common.{rules}
use Rattle.patch_bspline.proofs.points.patch_points.Goals as goal

pub returns : goal.returns
returns c = search rules
