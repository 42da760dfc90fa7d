use Rattle.nearest_float.proofs.WholeLemmas.{nearest-exact, exact-within, exact-fits}
use Rattle.nearest_float.proofs.size.exact_size.Goals as goal

pub size_from-requires-clause-fits : goal.size_from-requires-clause-fits
size_from-requires-clause-fits c =
    exact-fits c.args.fraction_bits c.args.amount c.args.unit_bits c.ilog2-bits.result c.ilog2-den_bits.result c.requires.some c.requires.short c.requires.fine
    c.requires.unit_fits c.ilog2-bits.ensures.power_le c.ilog2-bits.ensures.next_power_gt c.if-fraction_bits-bits.false c.ilog2-den_bits.ensures.bound

pub returns-clause-nearest : goal.returns-clause-nearest
returns-clause-nearest c =
    nearest-exact c.args.fraction_bits c.args.amount c.args.unit_bits c.ilog2-bits.result c.ilog2-den_bits.result c.requires.some c.requires.short c.requires.fine
    c.requires.unit_fits c.ilog2-bits.ensures.power_le c.ilog2-bits.ensures.next_power_gt c.if-fraction_bits-bits.false c.ilog2-den_bits.ensures.bound
    c.size_from.result c.args.den c.size_from.ensures c.if-den-den_bits.false

pub returns-clause-within : goal.returns-clause-within
returns-clause-within c =
    exact-within c.args.fraction_bits c.args.amount c.args.unit_bits c.ilog2-bits.result c.ilog2-den_bits.result c.requires.some c.requires.short c.requires.fine
    c.requires.unit_fits c.ilog2-bits.ensures.power_le c.ilog2-bits.ensures.next_power_gt c.if-fraction_bits-bits.false c.ilog2-den_bits.ensures.bound
    c.size_from.result c.size_from.ensures
