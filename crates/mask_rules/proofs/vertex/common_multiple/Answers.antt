use Rattle.std.proofs.Common.{◌≡◌, ◌*◌, ◌/◌, ap, arith}
use Rattle.std.proofs.lemmas.Nat.Gcd.{same_from_IsGcd}
use Rattle.subdiv_model.specs.Fractions.{gcd_of}
use Rattle.subdiv_model.specs.Multiples.{lcm_of}
use Rattle.number_laws.proofs.FractionLemmas.{gcd_of-is}
use Rattle.ratio128.proofs.RatioLemmas.{IsGcd-positive}
use Rattle.mask_rules.proofs.vertex.common_multiple.Goals as goal

pub nonzero_div-result : goal.nonzero_div-result
nonzero_div-result c = IsGcd-positive c.args.p c.args.r c.gcd.result c.gcd.ensures c.requires.positive

pub overflow_mul-result : goal.overflow_mul-result
overflow_mul-result c =
    let same : c.args.p * (c.args.r / c.gcd.result) ≡ lcm_of c.args.p c.args.r =
    ap (λ g. c.args.p * (c.args.r / g)) (same_from_IsGcd c.args.p c.args.r c.gcd.result (gcd_of c.args.p c.args.r) c.gcd.ensures (gcd_of-is c.args.p c.args.r)) in
    omega (arith, same, c.requires.small)

pub returns : goal.returns
returns c = ap (λ g. c.args.p * (c.args.r / g)) (same_from_IsGcd c.args.p c.args.r c.gcd.result (gcd_of c.args.p c.args.r) c.gcd.ensures (gcd_of-is c.args.p c.args.r))
