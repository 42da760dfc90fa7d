use Rattle.std.proofs.Common.{◌∙◌, sym, ap}
use Rattle.far_io.specs.Buffer.{BufferedLine}
use Rattle.far_io.proofs.BufferLemmas.{placed-plain, placed-closed}
use Rattle.far_io.proofs.buffer.LineBuffer.close.Goals as goal

pub invariant_of-self : goal.invariant_of-self
invariant_of-self c =
    (placed-plain c.self.invariant (ap (λ (b : BufferedLine). b.pending) c.self.view_is) (sym c.in_default.is ∙ c.next_lf.ensures)).0

pub returns-in_default-clause-plain : goal.returns-in_default-clause-plain
returns-in_default-clause-plain c = λ _.
    (placed-plain c.self.invariant (ap (λ (b : BufferedLine). b.pending) c.self.view_is) (sym c.in_default.is ∙ c.next_lf.ensures)).1

pub returns-clause-closed : goal.returns-clause-closed
returns-clause-closed c = λ _.
    (placed-closed c.self.invariant (ap (λ (b : BufferedLine). b.pending) c.self.view_is) (sym c.in-Some.is ∙ c.next_lf.ensures)).1
