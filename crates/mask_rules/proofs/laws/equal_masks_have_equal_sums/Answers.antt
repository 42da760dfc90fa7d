use Rattle.sharpness_laws.proofs.SameWeightLemmas.{same-sum}
use Rattle.sharpness_laws.proofs.MaskValueLemmas.{same-value, same-denominator}
use Rattle.mask_rules.proofs.laws.equal_masks_have_equal_sums.Goals as goal

pub returns-clause-numbers : goal.returns-clause-numbers
returns-clause-numbers c mask defined number is = same-sum number mask defined is.same

pub returns-clause-values : goal.returns-clause-values
returns-clause-values c mask defined value is joined = same-value mask defined is.joined joined is.same value

pub returns-clause-denominators : goal.returns-clause-denominators
returns-clause-denominators c mask defined denominator is joined = same-denominator mask defined is.joined joined is.same denominator
