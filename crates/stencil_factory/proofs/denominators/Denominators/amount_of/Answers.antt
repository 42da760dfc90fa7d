use Rattle.std.proofs.Common.{arith}
use Rattle.stencil_factory.proofs.PowerLemmas.{shift-divides}
use Rattle.stencil_factory.proofs.denominators.Denominators.amount_of.Goals as goal

pub overflow_mul-result : goal.overflow_mul-result
overflow_mul-result c =
    let same = shift-divides c.self.inside.list.now c.args.self.now c.self.view_is (c.self.invariant c.if-self.true) c.args.weight.now.0 c.args.weight.now.1 c.args.multiple c.requires.known c.requires.positive in
    record { fits = omega (arith, same, c.requires.small) }

pub returns-then-self : goal.returns-then-self
returns-then-self c =
    shift-divides c.self.inside.list.now c.args.self.now c.self.view_is (c.self.invariant c.if-self.true) c.args.weight.now.0 c.args.weight.now.1 c.args.multiple c.requires.known c.requires.positive
