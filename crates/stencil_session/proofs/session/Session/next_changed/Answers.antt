use Rattle.std.proofs.Common.{◌≤◌, arith, subst, sym}
use Rattle.subdiv_model.specs.Channel.{number_bound}
use Rattle.ratio128.specs.Numbers.{greatest_amount}
use Rattle.ratio128.specs.declared.point.Point3.{Point3}
use Rattle.stencil_session.specs.Session.{numbers_of}
use Rattle.stencil_session.proofs.SessionLemmas.{value-short}
use Rattle.stencil_session.proofs.session.Session.next_changed.Goals as goal

pub returns-clause-short : goal.returns-clause-short
returns-clause-short c =
    subst (λ (p : Point3). greatest_amount (numbers_of p) ≤ number_bound) (sym c.index.ensures)
    (value-short c.self.inside.table c.self.inside.columns c.self.inside.controls.items c.self.inside.values.items c.self.inside.marks c.self.invariant c.in_ok-point.point c.index.result.now
    (omega (arith, c.in_ok-point.ensures.inside, c.self.invariant.state.marks)))
