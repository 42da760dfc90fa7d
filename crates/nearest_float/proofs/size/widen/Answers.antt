use Rattle.nearest_float.proofs.ScaleLemmas.{scaled-over, scaled-under}
use Rattle.nearest_float.proofs.size.widen.Goals as goal

pub returns-then-top-bottom-clause-scaled : goal.returns-then-top-bottom-clause-scaled
returns-then-top-bottom-clause-scaled c =
    scaled-under c.args.amount c.args.den c.args.unit_bits c.ilog2-amount_shift.result c.ilog2-den_shift.result c.requires.fine c.requires.amount_fits
    c.ilog2-amount_shift.ensures.power_le c.ilog2-amount_shift.ensures.next_power_gt c.requires.den_fits c.ilog2-den_shift.ensures.power_le
    c.ilog2-den_shift.ensures.next_power_gt c.if-top-bottom.true

pub returns-else-top-bottom-clause-scaled : goal.returns-else-top-bottom-clause-scaled
returns-else-top-bottom-clause-scaled c =
    scaled-over c.args.amount c.args.den c.args.unit_bits c.ilog2-amount_shift.result c.ilog2-den_shift.result c.requires.fine c.requires.amount_fits
    c.ilog2-amount_shift.ensures.power_le c.ilog2-amount_shift.ensures.next_power_gt c.requires.den_fits c.ilog2-den_shift.ensures.power_le
    c.ilog2-den_shift.ensures.next_power_gt c.if-top-bottom.false
