use Rattle.obj_out.proofs.TermsLemmas.{divisor-positive, lowest-by}
use Rattle.obj_out.proofs.terms.lowest_terms.Goals as goal

pub quotient-requires : goal.quotient-requires
quotient-requires c = divisor-positive _ _ _ c.requires c.gcd-common.ensures

pub quotient-requires-2 : goal.quotient-requires-2
quotient-requires-2 c = divisor-positive _ _ _ c.requires c.gcd-common.ensures

pub returns : goal.returns
returns c = rw (c.quotient.ensures, c.quotient-2.ensures) (lowest-by _ _ _ c.gcd-common.ensures)
