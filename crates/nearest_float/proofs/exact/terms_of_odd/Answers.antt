use Rattle.nearest_float.proofs.TermLemmas.{terms-below, none-below, terms-above, none-above}
use Rattle.nearest_float.proofs.exact.terms_of_odd.Goals as goal

pub returns-then-halvings-gt126 : goal.returns-then-halvings-gt126
returns-then-halvings-gt126 c =
    none-below c.args.odd c.args.doublings c.args.unit_bits c.requires.odd c.if-doublings-unit_bits.true c.if-halvings-gt126.true

pub returns-else-halvings-gt126 : goal.returns-else-halvings-gt126
returns-else-halvings-gt126 c =
    terms-below c.args.odd c.args.doublings c.args.unit_bits c.requires.odd c.requires.fits c.if-doublings-unit_bits.true c.if-halvings-gt126.false

pub returns-then-ilog2-shift-gt126 : goal.returns-then-ilog2-shift-gt126
returns-then-ilog2-shift-gt126 c =
    none-above c.args.odd c.args.doublings c.args.unit_bits c.ilog2.result c.ilog2.ensures.power_le c.if-doublings-unit_bits.false c.if-ilog2-shift-gt126.true

pub returns-else-ilog2-shift-gt126 : goal.returns-else-ilog2-shift-gt126
returns-else-ilog2-shift-gt126 c =
    terms-above c.args.odd c.args.doublings c.args.unit_bits c.ilog2.result c.ilog2.ensures.next_power_gt c.if-doublings-unit_bits.false
    c.if-ilog2-shift-gt126.false
