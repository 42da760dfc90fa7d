use Rattle.std.proofs.Common.{◌≤◌, arith}
use Rattle.std.proofs.lemmas.Nat.Gcd.{le_of_dvd}
use Rattle.sharpness_rules.proofs.sharpness.common_divisor.Goals as goal

pub overflow_cast-result : goal.overflow_cast-result
overflow_cast-result c =
    let within : c.gcd.result ≤ c.args.den = le_of_dvd c.requires c.gcd.ensures.1 in omega arith
