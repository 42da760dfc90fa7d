use Rattle.level_walk.proofs.RoundLemmas.{taken, next-kept}
use Rattle.level_walk.proofs.round.round.Goals as goal

pub returns-clause-made : goal.returns-clause-made
returns-clause-made g c =
    taken g.S.NextLevel.level_of (g.S.NextLevel.Makes c.args.step.now) (g.S.NextLevel.Refuses c.args.step.now) (g.C.Carrier.Follows c.args.carrier.now) (g.C.Carrier.Fails c.args.carrier.now)
    g.V.Visitor.Takes c.next-next.result c.leave_for.result c.args.from c.args.visitor.now c.leave_for.new.visitor c.args.steps.now c.next-next.new.steps c.next-next.ensures.made c.leave_for.ensures

pub returns-clause-ready : goal.returns-clause-ready
returns-clause-ready g c left ready =
    next-kept g.V.Visitor.Takes c.next-next.result c.leave_for.result c.args.from c.args.visitor.now c.leave_for.new.visitor _ c.leave_for.ensures (c.next-next.ensures.ready left ready)

pub returns-clause-fits : goal.returns-clause-fits
returns-clause-fits g c =
    next-kept g.V.Visitor.Takes c.next-next.result c.leave_for.result c.args.from c.args.visitor.now c.leave_for.new.visitor _ c.leave_for.ensures c.next-next.ensures.fits
