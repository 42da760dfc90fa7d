use Rattle.std.proofs.Common.{arith}
use Rattle.row_arrays.proofs.ShiftLemmas.{large-up, small-up}
use Rattle.row_arrays.proofs.amount.shifted_up.Goals as goal

pub returns-then-ilog2-shift-gt126-clause-none : goal.returns-then-ilog2-shift-gt126-clause-none
returns-then-ilog2-shift-gt126-clause-none c =
    large-up c.args.significand c.ilog2.result c.args.shift c.ilog2.ensures.power_le c.if-ilog2-shift-gt126.true

pub returns-else-ilog2-shift-gt126-clause-some : goal.returns-else-ilog2-shift-gt126-clause-some
returns-else-ilog2-shift-gt126-clause-some c =
    let small = small-up c.args.significand c.ilog2.result c.args.shift c.ilog2.ensures.next_power_gt c.if-ilog2-shift-gt126.false in omega (arith, small)

pub returns-else-ilog2-shift-gt126-clause-fits : goal.returns-else-ilog2-shift-gt126-clause-fits
returns-else-ilog2-shift-gt126-clause-fits c =
    let small = small-up c.args.significand c.ilog2.result c.args.shift c.ilog2.ensures.next_power_gt c.if-ilog2-shift-gt126.false in omega (arith, small)
