use Rattle.obj_out.proofs.DigitsLemmas.{digits-between, digits-one}
use Rattle.obj_out.proofs.waiting.digits_of.Goals as goal

pub returns-then-n-lt10-clause-count : goal.returns-then-n-lt10-clause-count
returns-then-n-lt10-clause-count c = digits-one c.args.n c.if-n-lt10.true

pub returns-clause-count : goal.returns-clause-count
returns-clause-count c = digits-between c.ilog10.result c.args.n c.ilog10.ensures.power_le c.ilog10.ensures.next_power_gt c.ranges.n.fits
