use Rattle.sharpness_laws.proofs.SameWeightLemmas.{same-total, same-sum}
use Rattle.sharpness_laws.proofs.masks.same_weights_have_one_sum.Goals as goal

pub returns-clause-total : goal.returns-clause-total
returns-clause-total c = same-total

pub returns-clause-sum : goal.returns-clause-sum
returns-clause-sum c m n f h = same-sum f m n h
