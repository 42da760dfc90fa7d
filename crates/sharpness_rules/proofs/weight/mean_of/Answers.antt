use Rattle.std.proofs.Common.{◌*◌, ◌/◌, ◌<◌, ◌≤◌, arith}
use Rattle.sharpness_rules.proofs.SharpnessLemmas.{AreParts-from, at_most_one-less}
use Rattle.sharpness_rules.proofs.WeightLemmas.{factor-positive}
use Rattle.sharpness_rules.proofs.weight.mean_of.Goals as goal

pub returns-clause-mean : goal.returns-clause-mean
returns-clause-mean c =
    rw (← c.in-Some.ensures.product) (at_most_one-less c.args.total.num c.in-Some.den c.gcd-common.result c.gcd-common.ensures (omega arith))

pub returns-clause-range : goal.returns-clause-range
returns-clause-range c =
    let above : 0 < c.args.total.count * c.args.total.den = omega (arith, c.in-Some.ensures.product) in
    let some : 0 < c.args.total.count = factor-positive c.args.total.count c.args.total.den above in
    let parts = AreParts-from c.args.total.num c.in-Some.den c.gcd-common.result c.gcd-common.ensures (c.requires.above some) (omega arith) in
    let short : c.in-Some.den / c.gcd-common.result ≤ c.in-Some.den = parts.short in (parts.above, parts.ordered (omega arith), omega (arith, c.in-Some.ensures.within))
