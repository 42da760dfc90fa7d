use Rattle.obj_laws.proofs.NumeralValueLemmas.{form-least}
use Rattle.obj_laws.proofs.numerals.normal_forms_have_the_least_decimals.Goals as goal

pub returns : goal.returns
returns c = form-least
