use Rattle.std.proofs.Common.{length, arith}
use Rattle.std.proofs.lemmas.Bool.{eqb-true}
use Rattle.obj_tags.proofs.PlainLemmas.{whole-none, whole-rest, tens-some, product-fits}
use Rattle.obj_tags.proofs.plain.are_whole.Goals as goal

pub rest_over-rest-requires : goal.rest_over-rest-requires
rest_over-rest-requires c = tens-some c.pow-tens.result (length c.args.digits.now) c.pow-tens.ensures

pub returns-then-rest-eq0 : goal.returns-then-rest-eq0
returns-then-rest-eq0 c =
    λ _. whole-none c.args.digits.now c.args.common c.pow-tens.result c.rest_over-rest.result c.pow-tens.ensures c.rest_over-rest.ensures c.if-rest-eq0.true

pub overflow_mul-result : goal.overflow_mul-result
overflow_mul-result c =
    let small = product-fits c.args.common c.pow-tens.result c.rest_over-rest.result c.number_of.result (length c.args.digits.now) c.pow-tens.ensures (omega (arith, c.if-digits-le9.true)) c.rest_over-rest.ensures c.number_of.ensures.below in
    record { fits = omega (arith, small) }

pub nonzero_rem-result : goal.nonzero_rem-result
nonzero_rem-result c = tens-some c.pow-tens.result (length c.args.digits.now) c.pow-tens.ensures

pub returns-then-digits-le9 : goal.returns-then-digits-le9
returns-then-digits-le9 c =
    λ is. whole-rest c.args.digits.now c.args.common c.pow-tens.result c.rest_over-rest.result c.number_of.result c.pow-tens.ensures c.rest_over-rest.ensures c.number_of.ensures.number (eqb-true _ 0 is)
