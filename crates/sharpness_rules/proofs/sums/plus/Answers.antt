use Rattle.std.proofs.Common.{rules, ◌+◌, ◌*◌, ◌/◌, ◌<◌, arith, refl, ap}
use Rattle.sharpness_rules.proofs.MultipleLemmas.{IsLcm-positive}
use Rattle.sharpness_rules.proofs.TotalLemmas.{IsTotal-push, scaled-bounded, product-bounded, push-too_fine}
use Rattle.sharpness_rules.proofs.sums.plus.Goals as goal

pub returns-in_default-common_denominator : goal.returns-in_default-common_denominator
returns-in_default-common_denominator c = λ values is.
    rw c.in-Semi.is
    (push-too_fine values (c.in-Semi.value.num, c.in-Semi.value.den) c.args.total.den _ is.den (rw (← c.den.ensures) c.in_default-common_denominator.ensures.passed))

pub overflow_mul-result : goal.overflow_mul-result
overflow_mul-result c =
    let scaled = scaled-bounded c.args.total.num c.args.total.count c.args.total.den c.in-Some.den c.args.total.bounded c.in-Some.ensures.multiple.first in
    let product = product-bounded c.args.total.count c.in-Some.den (omega arith) c.in-Some.ensures.within in
    omega (arith, scaled, product)

pub overflow_add-result-2 : goal.overflow_add-result-2
overflow_add-result-2 c =
    let scaled = scaled-bounded c.args.total.num c.args.total.count c.args.total.den c.in-Some.den c.args.total.bounded c.in-Some.ensures.multiple.first in
    let product = product-bounded (c.args.total.count + 1) c.in-Some.den (omega arith) c.in-Some.ensures.within in
    omega (arith, scaled, product)

pub invariant_of-result : goal.invariant_of-result
invariant_of-result c =
    let scaled = scaled-bounded c.args.total.num c.args.total.count c.args.total.den c.in-Some.den c.args.total.bounded c.in-Some.ensures.multiple.first in
    let above : 0 < c.in-Semi.value.den = omega arith in
    record {
      positive = IsLcm-positive _ _ _ c.in-Some.ensures.multiple c.args.total.positive (rw c.den.ensures above);
      short = c.in-Some.ensures.within;
      bounded = omega (arith, scaled);
    }

pub returns : goal.returns
returns c = λ values is.
    rw c.in-Semi.is
    (IsTotal-push values (c.in-Semi.value.num, c.in-Semi.value.den) c.args.total _ is (rw (← c.den.ensures) c.in-Some.ensures.multiple) refl (ap (λ n. c.args.total.num * (c.in-Some.den / c.args.total.den) + n) c.parts_of.ensures.parts))

-- asked for by name, so that a body that breaks it is refused at once
pub returns-in_default : goal.returns-in_default
returns-in_default c = search rules
