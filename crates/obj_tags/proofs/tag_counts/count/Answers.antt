use Rattle.std.proofs.Common.{arith}
use Rattle.obj_tags.proofs.NumberLemmas.{digits-more, digits-within}
use Rattle.obj_tags.proofs.tag_counts.count.Goals as goal

pub overflow_mul-number : goal.overflow_mul-number
overflow_mul-number c =
    let fits = (digits-more c.loop-digit.digit-index c.loop-digit.number 0 (omega arith) c.loop-digit.invariant.bound (omega arith)).0 in omega arith

pub overflow_add-number : goal.overflow_add-number
overflow_add-number c =
    let fits = (digits-more c.loop-digit.digit-index c.loop-digit.number c.from.result (omega arith) c.loop-digit.invariant.bound (omega (arith, c.from.ensures, c.if-not-is_ascii_digit.ensures.cases))).1 in omega arith

pub returns-clause-bound : goal.returns-clause-bound
returns-clause-bound c = digits-within c.loop-digit.digit-index c.loop-digit.number (omega arith) c.loop-digit.invariant.bound
