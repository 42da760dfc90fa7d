use Rattle.std.proofs.Common.{◌<◌, ◌^◌, length, arith, rules, refl, ap, sym, subst, ◌∙◌}
use Rattle.obj_text.specs.Significant.{IsLong}
use Rattle.obj_text.proofs.DecimalLemmas.{long-rest}
use Rattle.obj_text.proofs.NumeralLemmas.{both-sides, long-word, read-plus, read-minus}
use Rattle.obj_text.proofs.numeral.normal_form_of.Goals as goal

pub returns-in_err-with_digits : goal.returns-in_err-with_digits
returns-in_err-with_digits c word is =
    rw c.from_residual.ensures
    (long-word word (subst IsLong (both-sides word c.args.parts.now.whole.now c.args.parts.now.fraction.now _ is.whole is.fraction refl) (long-rest _ c.args.parts.now.fraction.now c.requires.fraction c.in_err-with_digits.ensures)))

pub returns-in_err-number : goal.returns-in_err-number
returns-in_err-number c word is =
    let first = c.in_ok-with_digits.ensures in
    rw c.from_residual-in_err-number.ensures
    (long-word word (subst IsLong (both-sides word c.args.parts.now.whole.now c.args.parts.now.fraction.now _ is.whole is.fraction first.1) c.in_err-number.ensures))

pub returns-then-parts : goal.returns-then-parts
returns-then-parts c word is =
    let first = c.in_ok-with_digits.ensures in
    let both = c.in_ok-number.ensures in
    let says = both-sides word c.args.parts.now.whole.now c.args.parts.now.fraction.now _ is.whole is.fraction first.1 in
    let short : length c.args.parts.now.whole.now < 2 ^ 64 = search rules in
    let few : length c.args.parts.now.fraction.now < 2 ^ 64 = search rules in
    read-minus word c.over_tens.result c.in_ok-number.number.amount c.in_ok-number.number.zeros (length c.args.parts.now.fraction.now) c.args.parts.now.exponent.amount
    (sym says ∙ sym both.1) c.if-number-eq0.false both.0.ends (sym c.if-parts.true ∙ is.exponent_sign) (ap length is.fraction) (omega (arith, first.2, both.2)) is.exponent c.over_tens.ensures

pub returns-else-parts : goal.returns-else-parts
returns-else-parts c word is =
    let first = c.in_ok-with_digits.ensures in
    let both = c.in_ok-number.ensures in
    let says = both-sides word c.args.parts.now.whole.now c.args.parts.now.fraction.now _ is.whole is.fraction first.1 in
    let few : length c.args.parts.now.fraction.now < 2 ^ 64 = search rules in
    read-plus word c.over_tens-else-parts.result c.in_ok-number.number.amount c.in_ok-number.number.zeros (length c.args.parts.now.fraction.now) c.args.parts.now.exponent.amount
    (sym says ∙ sym both.1) c.if-number-eq0.false both.0.ends (sym c.if-parts.false ∙ is.exponent_sign) (ap length is.fraction) few is.exponent c.over_tens-else-parts.ensures
