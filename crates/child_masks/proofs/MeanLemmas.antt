-- Masks whose weights sum to their denominator.
use Rattle.std.proofs.Common.{◌≡◌, ◌<◌, IsTrue, arith}
use Rattle.std.proofs.lemmas.Bool.Decides.{nat_tests}
use Rattle.subdiv_model.specs.Mask.{Mask, total_weight, is_mean}

-- the denominator of a mean is above 0
pub mean-positive : (mask : Mask) → IsTrue (is_mean mask) → 0 < mask.denominator
mean-positive mask mean = grind (arith, nat_tests, mean)

-- the denominator of a mean is the sum of its weights
pub mean-total : (mask : Mask) → IsTrue (is_mean mask) → total_weight mask.terms ≡ mask.denominator
mean-total mask mean = grind (arith, nat_tests, mean)
