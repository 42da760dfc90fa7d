use Rattle.obj_laws.proofs.NumeralValueLemmas.{one-form-one-value, one-value-one-form}
use Rattle.obj_laws.proofs.numerals.normal_forms_tell_values_apart.Goals as goal

pub returns-clause-value : goal.returns-clause-value
returns-clause-value c = one-form-one-value

pub returns-clause-form : goal.returns-clause-form
returns-clause-form c = one-value-one-form
