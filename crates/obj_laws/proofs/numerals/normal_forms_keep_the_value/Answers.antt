use Rattle.obj_laws.proofs.NumeralValueLemmas.{form-value}
use Rattle.obj_laws.proofs.numerals.normal_forms_keep_the_value.Goals as goal

pub returns : goal.returns
returns c = form-value
