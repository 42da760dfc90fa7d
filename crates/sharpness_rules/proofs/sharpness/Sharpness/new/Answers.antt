use Rattle.std.proofs.Common.{◌/◌, ◌≤◌, arith}
use Rattle.ratio128.proofs.RatioLemmas.{IsGcd-positive}
use Rattle.sharpness_rules.proofs.SharpnessLemmas.{AreParts-from, sharpness_of-semi}
use Rattle.sharpness_rules.proofs.sharpness.Sharpness.new.Goals as goal

pub nonzero_div-result : goal.nonzero_div-result
nonzero_div-result c = IsGcd-positive _ _ _ c.common_divisor-common.ensures c.requires.positive

pub nonzero_div-result-2 : goal.nonzero_div-result-2
nonzero_div-result-2 c = IsGcd-positive _ _ _ c.common_divisor-common.ensures c.requires.positive

pub invariant_of-result : goal.invariant_of-result
invariant_of-result c =
    let parts = AreParts-from c.args.num c.args.den c.common_divisor-common.result c.common_divisor-common.ensures (omega arith) c.requires.positive in
    let short : c.args.den / c.common_divisor-common.result ≤ c.args.den = parts.short in
    record {
      above = parts.above;
      below = parts.below (omega arith);
      short = omega arith;
      lowest = parts.lowest;
    }

pub returns : goal.returns
returns c = sharpness_of-semi c.args.num c.args.den c.common_divisor-common.result c.common_divisor-common.ensures (omega arith) (omega arith)
