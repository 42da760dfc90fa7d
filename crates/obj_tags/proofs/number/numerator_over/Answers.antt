use Rattle.std.proofs.Common.{◌≡◌, ◌≤◌, ◌*◌, ◌/◌, ◌^◌, pos, unsigned_abs, arith, rules}
use Rattle.std.proofs.lemmas.Int.{unsigned_abs-mul}
use Rattle.obj_tags.specs.Channel.{over_common}
use Rattle.obj_tags.proofs.number.numerator_over.Goals as goal

pub returns-in-Some : goal.returns-in-Some
returns-in-Some c =
    let size : unsigned_abs (over_common c.args.common c.args.number) ≡ unsigned_abs c.args.number.num * (c.args.common / c.args.number.den) = unsigned_abs-mul c.args.number.num (pos (c.args.common / c.args.number.den)) in
    let amount : c.in-Some.amount ≡ unsigned_abs c.args.number.num * (c.args.common / c.args.number.den) = search rules in
    (search rules, omega (arith, size, amount, c.if-amount-lt-NUMERAL_BOUND.true))

pub returns-in_default : goal.returns-in_default
returns-in_default c =
    let size : unsigned_abs (over_common c.args.common c.args.number) ≡ unsigned_abs c.args.number.num * (c.args.common / c.args.number.den) = unsigned_abs-mul c.args.number.num (pos (c.args.common / c.args.number.den)) in
    let amount : c.in-Some.amount ≡ unsigned_abs c.args.number.num * (c.args.common / c.args.number.den) = search rules in
    omega (arith, size, amount, c.if-amount-lt-NUMERAL_BOUND.false)

pub returns-in_default-2 : goal.returns-in_default-2
returns-in_default-2 c =
    let size : unsigned_abs (over_common c.args.common c.args.number) ≡ unsigned_abs c.args.number.num * (c.args.common / c.args.number.den) = unsigned_abs-mul c.args.number.num (pos (c.args.common / c.args.number.den)) in
    let past : 2 ^ 128 ≤ unsigned_abs c.args.number.num * (c.args.common / c.args.number.den) = search rules in
    omega (arith, size, past)
