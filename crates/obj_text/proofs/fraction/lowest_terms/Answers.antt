use Rattle.obj_text.proofs.TermsLemmas.{divisor-positive, quotient-terms}
use Rattle.obj_text.proofs.fraction.lowest_terms.Goals as goal

pub nonzero_div-result : goal.nonzero_div-result
nonzero_div-result c = divisor-positive c.args.num c.args.den _ c.requires.positive c.gcd-common.ensures

pub nonzero_div-result-2 : goal.nonzero_div-result-2
nonzero_div-result-2 c = divisor-positive c.args.num c.args.den _ c.requires.positive c.gcd-common.ensures

pub returns : goal.returns
returns c = quotient-terms c.args.num c.args.den _ c.requires.num c.requires.den c.requires.positive c.gcd-common.ensures
