use Rattle.std.proofs.Common.{refl}
use Rattle.row_arrays.proofs.RoundLemmas.{down-rounding, up-rounding, up-far}
use Rattle.row_arrays.proofs.amount.rounded_amount.Goals as goal

pub returns-then-up-unit_bits : goal.returns-then-up-unit_bits
returns-then-up-unit_bits c =
    down-rounding c.args.parts.significand c.args.parts.doublings c.args.unit_bits c.args.grid_bits c.shifted_down.result c.if-up-unit_bits.true
    c.shifted_down.ensures

pub returns-in-None : goal.returns-in-None
returns-in-None c =
    up-far c.args.parts.significand c.args.parts.doublings c.args.unit_bits c.args.grid_bits c.if-up-unit_bits.false c.in-None.ensures.none

pub returns-in-Some : goal.returns-in-Some
returns-in-Some c =
    up-rounding c.args.parts.significand c.args.parts.doublings c.args.unit_bits c.args.grid_bits _ c.if-up-unit_bits.false c.in-Some.ensures.some
    c.in-Some.ensures.fits refl
