use Rattle.patch_bspline.proofs.SplineLemmas.{third-is}
use Rattle.patch_bspline.proofs.spline.third_weight.Goals as goal

pub returns : goal.returns
returns c =
    third-is c.args.m c.args.i c.product-cube.result c.product-whole.result c.product-square.result c.product-single.result c.product-cube.ensures.product
    c.product-whole.ensures.product c.product-square.ensures.product c.product-single.ensures.product
