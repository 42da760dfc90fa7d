use Rattle.std.proofs.Common.{refl}
use Rattle.level_walk.specs.Origins.{OnEdge}
use Rattle.level_walk.specs.OriginsView.{seen_origin}
use Rattle.level_walk.proofs.OriginItemLemmas.{pushed}
use Rattle.level_walk.proofs.base_origins.own_edges.Goals as goal

pub loop-e-preserved : goal.loop-e-preserved
loop-e-preserved c = pushed seen_origin OnEdge c.loop-e.e c.loop-e.edges.items c.push.new.self.items _ c.in_ok-push.ensures.items refl c.loop-e.invariant
