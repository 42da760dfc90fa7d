use Rattle.std.proofs.Common.{arith, rules}
use Rattle.refined_point.proofs.refined_point.Goals as goal

pub returns-then-number-len : goal.returns-then-number-len
returns-then-number-len c = record {
  refined = c.in_ok-refined.refined;
  points = search (rules, c.in_ok-refined.ensures);
  inside = omega (arith, c.if-number-len.true, c.len.ensures);
  is = search (rules, c.index.ensures);
}

pub returns : goal.returns
returns c = record {
  refined = c.in_ok-refined.refined;
  points = search (rules, c.in_ok-refined.ensures);
  past = omega (arith, c.if-number-len.false, c.len.ensures);
}
