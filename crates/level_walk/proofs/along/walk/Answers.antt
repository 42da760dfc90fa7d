use Rattle.std.proofs.Common.{◌+◌, ◌-◌}
use Rattle.level_walk.specs.Walk.{at}
use Rattle.level_walk.proofs.WalkLemmas.{after-next, handed-on, kept, kept-on, changed, one-left, stopped}
use Rattle.level_walk.proofs.along.walk.Goals as goal

pub returns-in_err-reached : goal.returns-in_err-reached
returns-in_err-reached g c =
    handed-on _ c.in_err-reached.field-0.0 _ _ c.from_residual.ensures.0 c.from_residual.ensures.1
    (stopped g.S.NextLevel.level_of (g.S.NextLevel.Makes c.args.step.now) (g.S.NextLevel.Refuses c.args.step.now) (g.C.Carrier.Follows c.args.carrier.now) (g.C.Carrier.Fails c.args.carrier.now)
    g.V.Visitor.Takes (at c.args.start c.args.visitor.now c.args.steps.now) c.args.depth c.loop-k.k (at c.loop-k.reached c.loop-k.visitor c.loop-k.steps) c.in_err-reached.field-0.0 c.round.new.visitor c.round.new.steps
    c.loop-k-test.true c.loop-k.invariant.walked
    (changed c.round.result c.in_err-reached.field-0.0 (λ cause. record { level = c.loop-k.k + 1; cause = cause }) _ _ c.in_err-reached.ensures c.round.ensures.made))

pub loop-k-preserved : goal.loop-k-preserved
loop-k-preserved g c =
    let made = kept c.round.result c.in_ok-reached.reached (λ cause. record { level = c.loop-k.k + 1; cause = cause }) _ _ c.in_ok-reached.ensures c.round.ensures.made in
    record {
      ready = kept-on c.round.result c.in_ok-reached.reached (λ cause. record { level = c.loop-k.k + 1; cause = cause }) _ c.in_ok-reached.ensures
          (c.round.ensures.ready (c.args.depth - (c.loop-k.k + 1)) (one-left (g.S.NextLevel.IsReady c.args.step.now c.loop-k.reached.level) c.args.depth c.loop-k.k c.loop-k-test.true c.loop-k.invariant.ready));
      fits = kept-on c.round.result c.in_ok-reached.reached (λ cause. record { level = c.loop-k.k + 1; cause = cause }) _ c.in_ok-reached.ensures c.round.ensures.fits;
      walked = after-next _ (at c.args.start c.args.visitor.now c.args.steps.now) c.loop-k.k (at c.loop-k.reached c.loop-k.visitor c.loop-k.steps) (at c.in_ok-reached.reached c.round.new.visitor c.round.new.steps)
          c.loop-k.invariant.walked (record { made = made.0; taken = made.1 });
    }

pub round-requires-clause-ready : goal.round-requires-clause-ready
round-requires-clause-ready g c =
    (c.args.depth - (c.loop-k.k + 1), one-left (g.S.NextLevel.IsReady c.args.step.now c.loop-k.reached.level) c.args.depth c.loop-k.k c.loop-k-test.true c.loop-k.invariant.ready)
