use Rattle.std.proofs.Common.{◌+ℤ◌, ◌*ℤ◌, FitsSigned}
use Rattle.std.specs.Int.{w128}
use Rattle.std.proofs.lemmas.Int.{to_z-of_z, fits_signed_from_abs}
use Rattle.ratio128.proofs.primvar.plus.Goals as goal

product_fits : (c : goal.Start) → FitsSigned w128 (c.args.weight *ℤ c.args.other)
product_fits c = fits_signed_from_abs w128 _ c.requires.product.kept

sum_fits : (c : goal.Start) → FitsSigned w128 (c.args.number +ℤ c.args.weight *ℤ c.args.other)
sum_fits c = fits_signed_from_abs w128 _ c.requires.sum.kept

pub overflow_mul-result : goal.overflow_mul-result
overflow_mul-result c = simp (to_z-of_z w128 _ c.ranges.weight, to_z-of_z w128 _ c.ranges.other) (product_fits c)

pub overflow_add-result : goal.overflow_add-result
overflow_add-result c =
    simp (to_z-of_z w128 _ c.ranges.weight, to_z-of_z w128 _ c.ranges.other, to_z-of_z w128 _ c.ranges.number, to_z-of_z w128 _ (product_fits c)) (sum_fits c)

pub returns : goal.returns
returns c =
    simp (to_z-of_z w128 _ c.ranges.weight, to_z-of_z w128 _ c.ranges.other, to_z-of_z w128 _ c.ranges.number, to_z-of_z w128 _ (product_fits c), to_z-of_z w128 _ (sum_fits c))
