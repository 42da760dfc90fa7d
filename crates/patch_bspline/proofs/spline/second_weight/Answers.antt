use Rattle.std.proofs.Common.{arith}
use Rattle.patch_bspline.proofs.SplineLemmas.{second-fits, second-is}
use Rattle.patch_bspline.proofs.spline.second_weight.Goals as goal

pub overflow_sub-result : goal.overflow_sub-result
overflow_sub-result c =
    omega (arith, second-fits c.args.m c.args.i c.requires.inside, c.product-cube.ensures.product, c.product-whole.ensures.product, c.product-square.ensures.product)

pub returns : goal.returns
returns c =
    second-is c.args.m c.args.i c.product-cube.result c.product-whole.result c.product-square.result c.product-cube.ensures.product
    c.product-whole.ensures.product c.product-square.ensures.product
