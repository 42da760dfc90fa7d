use Rattle.std.proofs.Common.{ℕ, ◌+◌, ◌-◌, ◌*◌, ◌^◌, ◌≤◌, arith, subst, sym, ◌∙◌, ap}
use Rattle.nearest_float.specs.Scaled.{IsNearestSize}
use Rattle.nearest_float.proofs.ScaleLemmas.{nearest-scaled, size-fits, size-within}
use Rattle.nearest_float.proofs.size.nearest_size.Goals as goal

pub size_from-requires-clause-fits : goal.size_from-requires-clause-fits
size_from-requires-clause-fits c =
    let fits = size-fits c.widen-fraction.result.doublings c.min-shift.result c.args.fraction_bits
    (omega (arith, c.widen-fraction.ensures.few, c.requires.unit_fits)) c.requires.short in omega (arith, fits, c.half_even-significand.ensures.few)

pub returns-clause-nearest : goal.returns-clause-nearest
returns-clause-nearest c =
    let P : ℕ → Type 0 = λ n. IsNearestSize c.args.fraction_bits (c.args.amount * 2 ^ c.args.unit_bits) c.args.den n in
    subst P (sym (c.size_from.ensures ∙ ap (λ n. (c.widen-fraction.result.doublings - c.min-shift.result) * 2 ^ c.args.fraction_bits + n) c.half_even-significand.ensures.value))
    (nearest-scaled c.args.fraction_bits _ c.args.den _ _ _ c.min-shift.result _ _ c.requires.some c.requires.den c.widen-fraction.ensures.scaled c.min-shift.ensures
    c.long_quotient-quotient.ensures.whole c.long_quotient-quotient.ensures.rest)

pub returns-clause-within : goal.returns-clause-within
returns-clause-within c =
    let P : ℕ → Type 0 = λ n. n ≤ (c.args.unit_bits + 128 - c.args.fraction_bits) * 2 ^ c.args.fraction_bits in
    subst P (sym (c.size_from.ensures ∙ ap (λ n. (c.widen-fraction.result.doublings - c.min-shift.result) * 2 ^ c.args.fraction_bits + n) c.half_even-significand.ensures.value))
    (size-within _ c.args.den _ _ _ c.min-shift.result _ _ c.args.fraction_bits c.args.unit_bits c.widen-fraction.ensures.scaled c.min-shift.ensures
    c.long_quotient-quotient.ensures.whole (omega (arith, c.requires.short, c.requires.fine)) c.widen-fraction.ensures.few)
