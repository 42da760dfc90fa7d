use Rattle.std.proofs.Common.{rules, arith, FitsSigned}
use Rattle.std.specs.Int.{w128}
use Rattle.std.proofs.lemmas.Int.{to_z-of_z}
use Rattle.ratio128.proofs.RatioLemmas.{IsGcd-positive, quotient_positive, lowest_same, lowest_gcd}
use Rattle.ratio128.proofs.divisor.lowest.Goals as goal

pub quotient-requires : goal.quotient-requires
quotient-requires c = IsGcd-positive _ _ _ c.gcd-common.ensures (omega (arith, c.requires.positive))

pub quotient-requires-2 : goal.quotient-requires-2
quotient-requires-2 c = IsGcd-positive _ _ _ c.gcd-common.ensures (omega (arith, c.requires.positive))

pub returns-clause-positive : goal.returns-clause-positive
returns-clause-positive c = rw c.quotient-2.ensures (quotient_positive _ _ _ c.gcd-common.ensures c.requires.positive)

pub returns-clause-lowest : goal.returns-clause-lowest
returns-clause-lowest c =
    let f : FitsSigned w128 c.with_sign_of.result = search rules in
    simp (to_z-of_z w128 _ f, c.quotient-2.ensures)
    (lowest_gcd _ _ _ _ c.with_sign_of.result (IsGcd-positive _ _ _ c.gcd-common.ensures c.requires.positive) c.gcd-common.ensures
    (simp (to_z-of_z w128 _ c.ranges.num, c.quotient.ensures) at c.with_sign_of.ensures))

pub returns-clause-same : goal.returns-clause-same
returns-clause-same c =
    let f : FitsSigned w128 c.with_sign_of.result = search rules in
    simp (to_z-of_z w128 _ f, c.quotient-2.ensures)
    (lowest_same _ _ _ _ c.with_sign_of.result (simp (to_z-of_z w128 _ c.ranges.num) at c.unsigned_abs-amount.ensures.value) c.gcd-common.ensures
    (simp (to_z-of_z w128 _ c.ranges.num, c.quotient.ensures) at c.with_sign_of.ensures))
