use Rattle.std.proofs.Common.{[]}
use Rattle.level_topology.proofs.ListPlaceLemmas.{push-range}
use Rattle.level_walk.proofs.base_origins.own_faces.Goals as goal

pub loop-f-preserved : goal.loop-f-preserved
loop-f-preserved c = push-range [] c.loop-f.faces.items c.push.new.self.items c.loop-f.f c.loop-f.invariant c.in_ok-push.ensures.items
