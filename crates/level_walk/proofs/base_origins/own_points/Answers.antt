use Rattle.std.proofs.Common.{refl}
use Rattle.level_walk.specs.Origins.{OnPoint}
use Rattle.level_walk.specs.OriginsView.{seen_origin}
use Rattle.level_walk.proofs.OriginItemLemmas.{pushed}
use Rattle.level_walk.proofs.base_origins.own_points.Goals as goal

pub loop-v-preserved : goal.loop-v-preserved
loop-v-preserved c = pushed seen_origin OnPoint c.loop-v.v c.loop-v.points.items c.push.new.self.items _ c.in_ok-push.ensures.items refl c.loop-v.invariant
