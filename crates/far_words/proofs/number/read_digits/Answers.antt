use Rattle.std.proofs.Common.{arith, sym, ◌∙◌}
use Rattle.far_words.proofs.NumberLemmas.{too-large, all-digits}
use Rattle.far_words.proofs.number.read_digits.Goals as goal

pub returns-in_err-checked_mul : goal.returns-in_err-checked_mul
returns-in_err-checked_mul c =
    c.from_residual.ensures
    ∙ sym (too-large c.args.digits.now c.loop-byte.number c.loop-byte.byte-index c.loop-byte.invariant.number c.loop-byte-test.true
    (omega (arith, c.in_err-checked_mul.ensures)))

pub returns-in_err-number : goal.returns-in_err-number
returns-in_err-number c =
    c.from_residual-in_err-number.ensures
    ∙ sym (too-large c.args.digits.now c.loop-byte.number c.loop-byte.byte-index c.loop-byte.invariant.number c.loop-byte-test.true
    (omega (arith, c.in_err-number.ensures)))

pub returns : goal.returns
returns c =
    let kept = c.loop-byte.invariant in
    all-digits c.args.digits.now c.loop-byte.number c.loop-byte.byte-index kept.digits kept.number c.loop-byte-test.false kept.fits
