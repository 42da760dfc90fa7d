use Rattle.std.proofs.Common.{arith}
use Rattle.obj_text.proofs.DecimalLemmas.{long-part}
use Rattle.obj_text.proofs.decimal.with_digits.Goals as goal

pub returns-in_err-number : goal.returns-in_err-number
returns-in_err-number c =
    rw c.from_residual.ensures (long-part _ c.args.digits.now c.loop-byte.byte-index _ (omega arith) c.requires.digits c.loop-byte.invariant.says c.in_err-number.ensures)
