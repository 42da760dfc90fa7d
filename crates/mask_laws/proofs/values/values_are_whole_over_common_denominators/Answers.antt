use Rattle.mask_laws.proofs.DenominatorLemmas.{refined-over}
use Rattle.mask_laws.proofs.values.values_are_whole_over_common_denominators.Goals as goal

pub returns : goal.returns
returns c = λ level r. refined-over level r.scheme r.controls.numbers r.steps r.controls.one_each
