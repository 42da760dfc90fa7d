use Rattle.ratio128.proofs.RatioLemmas.{IsGcd-positive}
use Rattle.ratio128.proofs.LcmLemmas.{none_passes, some_is_least}
use Rattle.ratio128.proofs.multiple.lcm_within.Goals as goal

pub quotient-requires : goal.quotient-requires
quotient-requires c = IsGcd-positive _ _ _ c.gcd-common.ensures c.requires.b_positive

pub returns-clause-passed : goal.returns-clause-passed
returns-clause-passed c =
    none_passes _ _ _ _ _ (IsGcd-positive _ _ _ c.gcd-common.ensures c.requires.b_positive) c.gcd-common.ensures
    (rw c.quotient.ensures at c.times_within.ensures.passed)

pub returns-clause-multiple : goal.returns-clause-multiple
returns-clause-multiple c =
    some_is_least _ _ _ _ (IsGcd-positive _ _ _ c.gcd-common.ensures c.requires.b_positive) c.gcd-common.ensures
    (rw c.quotient.ensures at c.times_within.ensures.product)
