use Rattle.std.proofs.Common.{sym, ◌∙◌}
use Rattle.patch_bspline.proofs.SplineLemmas.{cube-is}
use Rattle.patch_bspline.proofs.spline.fourth_weight.Goals as goal

pub returns : goal.returns
returns c = c.product.ensures.product ∙ sym (cube-is c.args.i)
