use Rattle.std.proofs.Common.{◌≡◌, to_z, of_z, get_or, ◌*◌, ◌/◌, pos, neg_ℤ, int_lt, if◌then◌else◌, FitsSigned, unsigned_abs, arith, rules, refl, ap, ◌∙◌}
use Rattle.std.specs.Int.{w128}
use Rattle.std.proofs.lemmas.Int.{to_z-of_z, fits_signed_from_abs}
use Rattle.row_arrays.specs.Floats.{bits_of, format_of}
use Rattle.row_arrays.proofs.OverLemmas.{is-numerator, is-large}
use Rattle.row_arrays.proofs.scale.numerator_at.Goals as goal

pub returns-in-Some : goal.returns-in-Some
returns-in-Some c =
    let num : to_z w128 (of_z w128 c.in-Ok.fraction.num) ≡ c.in-Ok.fraction.num =
    to_z-of_z w128 c.in-Ok.fraction.num (fits_signed_from_abs w128 c.in-Ok.fraction.num c.in-Ok.ensures.terms.num_fits) in
    let fits : FitsSigned w128 c.signed.result = search rules in
    is-numerator (format_of c.args.numbers.now) c.args.scale (get_or (bits_of c.args.numbers.now) c.args.place 0) c.in-Ok.fraction.den c.in-Ok.fraction.num
    c.in-Ok.ensures c.requires.positive c.requires.common c.in-Some.amount _
    (c.in-Some.ensures.product ∙ ap (λ n. n * (c.args.scale / c.in-Ok.fraction.den)) (c.unsigned_abs.ensures.value ∙ ap unsigned_abs num))
    (omega (arith, c.in-Some.ensures.within))
    (to_z-of_z w128 c.signed.result fits ∙ c.signed.ensures
    ∙ ap (λ z. if (int_lt z (pos 0)) then (neg_ℤ (pos c.in-Some.amount)) else (pos c.in-Some.amount)) num)

pub returns-in-None : goal.returns-in-None
returns-in-None c =
    let num : to_z w128 (of_z w128 c.in-Ok.fraction.num) ≡ c.in-Ok.fraction.num =
    to_z-of_z w128 c.in-Ok.fraction.num (fits_signed_from_abs w128 c.in-Ok.fraction.num c.in-Ok.ensures.terms.num_fits) in
    let product : c.unsigned_abs.result * (c.args.scale / c.in-Ok.fraction.den) ≡ unsigned_abs c.in-Ok.fraction.num * (c.args.scale / c.in-Ok.fraction.den) =
    ap (λ n. n * (c.args.scale / c.in-Ok.fraction.den)) (c.unsigned_abs.ensures.value ∙ ap unsigned_abs num) in
    let more = c.in-None.ensures.passed.0 refl in
    is-large (format_of c.args.numbers.now) c.args.scale (get_or (bits_of c.args.numbers.now) c.args.place 0) c.in-Ok.fraction.den c.in-Ok.fraction.num
    c.in-Ok.ensures c.requires.positive c.requires.common (omega (arith, more, product))
