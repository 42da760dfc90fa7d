use Rattle.obj_out.proofs.TermsLemmas.{lowest-shifted}
use Rattle.obj_out.proofs.terms.shifted_terms.Goals as goal

pub returns : goal.returns
returns c = rw c.min-twos.ensures (lowest-shifted c.args.num c.args.den c.ranges.num.fits c.requires.positive c.ranges.den.fits c.requires.power)
