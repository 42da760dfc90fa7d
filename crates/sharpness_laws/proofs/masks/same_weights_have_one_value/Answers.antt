use Rattle.sharpness_laws.proofs.TermOrderLemmas.{same_weights-permuted}
use Rattle.sharpness_laws.proofs.MaskValueLemmas.{same-value, same-denominator}
use Rattle.sharpness_laws.proofs.masks.same_weights_have_one_value.Goals as goal

pub returns-clause-terms : goal.returns-clause-terms
returns-clause-terms c = same_weights-permuted

pub returns-clause-value : goal.returns-clause-value
returns-clause-value c m n value h k same = same-value m n h k same value

pub returns-clause-denominator : goal.returns-clause-denominator
returns-clause-denominator c m n denominator h k same = same-denominator m n h k same denominator
