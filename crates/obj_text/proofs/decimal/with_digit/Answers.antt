use Rattle.std.proofs.Common.{◌≡◌, ◌+◌, ◌*◌, ◌^◌, arith, refl}
use Rattle.obj_text.proofs.DecimalLemmas.{long-digit, more-zero}
use Rattle.obj_text.proofs.decimal.with_digit.Goals as goal

pub returns-else-number-eq0 : goal.returns-else-number-eq0
returns-else-number-eq0 c =
    let more : c.args.number.amount * 10 ^ c.args.number.zeros * 10 ≡ c.args.number.amount * 10 ^ (c.args.number.zeros + 1) =
    more-zero c.args.number.amount c.args.number.zeros _ refl in
    (record { ends = c.requires.number.ends; none = λ none. absurd (c.if-number-eq0.false none); short = c.requires.number.short }, omega arith, omega arith)

pub returns-in_err-amount : goal.returns-in_err-amount
returns-in_err-amount c =
    rw c.from_residual.ensures (long-digit (c.args.number.amount * 10 ^ c.args.number.zeros) c.args.digit (omega (arith, c.in_err-amount.ensures)) c.if-digit-eq0.false c.requires.digit)

pub returns-else-amount-lt-NUMERAL_BOUND : goal.returns-else-amount-lt-NUMERAL_BOUND
returns-else-amount-lt-NUMERAL_BOUND c =
    long-digit (c.args.number.amount * 10 ^ c.args.number.zeros) c.args.digit (omega (arith, c.in_ok-amount.ensures, c.from.ensures)) c.if-digit-eq0.false c.requires.digit
