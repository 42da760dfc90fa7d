use Rattle.std.proofs.Common.{arith}
use Rattle.table_file.proofs.NumberLemmas.{number-before, digit-few}
use Rattle.table_file.proofs.number.wide_number.Goals as goal

pub overflow_mul-number : goal.overflow_mul-number
overflow_mul-number c =
    record { fits = omega (arith, c.loop-byte.invariant, number-before c.args.digits.now c.loop-byte.byte-index 37 c.requires.digits c.loop-byte-test.true c.requires.few) }

pub overflow_add-number : goal.overflow_add-number
overflow_add-number c =
    record { fits = omega (arith, c.loop-byte.invariant, number-before c.args.digits.now c.loop-byte.byte-index 37 c.requires.digits c.loop-byte-test.true c.requires.few, digit-few c.args.digits.now c.loop-byte.byte-index 0 c.requires.digits c.loop-byte-test.true, c.from.ensures) }
