use Rattle.std.proofs.Common.{get_or, refl}
use Rattle.level_topology.proofs.ListPlaceLemmas.{mapped-more}
use Rattle.point_fans.proofs.turn.put_corners.Goals as goal

pub loop-i-preserved : goal.loop-i-preserved
loop-i-preserved c = mapped-more (λ f. get_or c.args.corners.now f 0) c.args.faces.now c.loop-i.at.items c.push.new.self.items c.loop-i.i _ c.loop-i-test.true c.loop-i.invariant c.in_ok-push.ensures.items refl
