use Rattle.std.proofs.Common.{arith}
use Rattle.sharpness_rules.proofs.HalfLemmas.{shares-bounded, shares-positive}
use Rattle.sharpness_rules.proofs.shares.Shares.half_of.Goals as goal

pub overflow_mul-sum-2 : goal.overflow_mul-sum-2
overflow_mul-sum-2 c = omega (arith, shares-bounded c.args.self c.parts_of-own.result c.parts_of-own.ensures.bounded)

pub overflow_add-sum : goal.overflow_add-sum
overflow_add-sum c = omega (arith, shares-bounded c.args.self c.parts_of-own.result c.parts_of-own.ensures.bounded)

pub overflow_cast-saturating_sub : goal.overflow_cast-saturating_sub
overflow_cast-saturating_sub c = omega (arith, shares-bounded c.args.self c.parts_of-own.result c.parts_of-own.ensures.bounded)

pub new-requires-clause-positive : goal.new-requires-clause-positive
new-requires-clause-positive c = shares-positive c.args.self
