use Rattle.std.proofs.Common.{rules, arith, inl, inr}
use Rattle.obj_text.proofs.TermsLemmas.{without-start, without-step}
use Rattle.obj_text.proofs.terms.without_fives.Goals as goal

pub loop-left-init : goal.loop-left-init
loop-left-init c = record { value = without-start 5 c.args.amount c.args.most; few = omega arith }

pub loop-left-preserved : goal.loop-left-preserved
loop-left-preserved c = record {
  value = without-step 5 c.args.amount c.args.most c.loop-left.rest c.loop-left.left c.loop-left.invariant.few c.loop-left-test.true c.if-rest-eq0.true c.loop-left.invariant.value;
  few = omega (arith, c.loop-left.invariant.few);
}

pub returns-else-rest-eq0 : goal.returns-else-rest-eq0
returns-else-rest-eq0 c = record { value = c.loop-left.invariant.value; few = c.loop-left.invariant.few; ends = inr c.if-rest-eq0.false }

pub returns-after-loop-left : goal.returns-after-loop-left
returns-after-loop-left c = record { value = c.loop-left.invariant.value; few = c.loop-left.invariant.few; ends = inl (omega (arith, c.loop-left-test.false)) }

-- asked for by name, so that a body that breaks it is refused at once
pub returns-then-amount : goal.returns-then-amount
returns-then-amount c = search rules
