use Rattle.obj_text.proofs.TermsLemmas.{decimal-outside, decimal-read}
use Rattle.obj_text.proofs.numeral.terms_of.Goals as goal

pub returns-in_default-normal_form_of : goal.returns-in_default-normal_form_of
returns-in_default-normal_form_of c =
    let decimal = c.in-Some.ensures in
    decimal-outside c.args.word.now decimal.0 (c.in_default-normal_form_of.ensures c.args.word.now decimal.1)

pub returns : goal.returns
returns c =
    let decimal = c.in-Some.ensures in
    let form = c.in-Some-normal_form_of.ensures c.args.word.now decimal.1 in
    decimal-read c.args.word.now c.over_decimals.result c.in-Some-normal_form_of.amount c.in-Some-normal_form_of.decimals decimal.0 form.0 form.1 c.over_decimals.ensures
