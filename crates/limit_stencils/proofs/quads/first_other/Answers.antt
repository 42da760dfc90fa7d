use Rattle.std.proofs.Common.{arith}
use Rattle.limit_stencils.proofs.QuadLemmas.{all-quads}
use Rattle.limit_stencils.proofs.quads.first_other.Goals as goal

pub returns : goal.returns
returns c = all-quads c.args.level.now.level.polygons c.loop-f.f (omega (arith, c.loop-f-test.false, c.faces-f-end.ensures)) c.loop-f.invariant
