use Rattle.obj_laws.proofs.NumeralTextLemmas.{form-decimal, form-read-back}
use Rattle.obj_laws.proofs.numerals.normal_forms_are_read_back.Goals as goal

pub returns-clause-decimal : goal.returns-clause-decimal
returns-clause-decimal c = form-decimal

pub returns-clause-form : goal.returns-clause-form
returns-clause-form c = form-read-back
