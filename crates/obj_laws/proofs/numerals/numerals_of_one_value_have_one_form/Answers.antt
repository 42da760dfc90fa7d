use Rattle.obj_laws.proofs.NumeralTermsLemmas.{terms-value, same-value-one-form, one-form-same-value}
use Rattle.obj_laws.proofs.numerals.numerals_of_one_value_have_one_form.Goals as goal

pub returns-clause-value : goal.returns-clause-value
returns-clause-value c word numeral = terms-value word

pub returns-clause-form : goal.returns-clause-form
returns-clause-form c v w first second = same-value-one-form v w

pub returns-clause-same : goal.returns-clause-same
returns-clause-same c v w first second = one-form-same-value v w
