use Rattle.std.proofs.Common.{refl}
use Rattle.stencil_session.proofs.MoveLemmas.{made-step, moved-whole}
use Rattle.stencil_session.proofs.session.Session.move_points.Goals as goal

pub loop-next-init : goal.loop-next-init
loop-next-init g c = record { table = refl; made = refl; cause = refl; steps = refl }

pub loop-next-preserved : goal.loop-next-preserved
loop-next-preserved g c =
    made-step _ _ _ c.args.moves.now _ _ _ c.loop-next.next-index c.loop-next-test.true c.loop-next.invariant
    c.in_ok-move_point.ensures.cause c.in_ok-move_point.ensures.moved c.in_ok-move_point.ensures.steps

pub returns-clause-moved : goal.returns-clause-moved
returns-clause-moved g c = moved-whole _ _ c.args.moves.now _ _ c.loop-next.next-index c.loop-next-test.false c.loop-next.invariant
