use Rattle.std.proofs.Common.{nat_eq}
use Rattle.std.specs.List.{position_or_len}
use Rattle.mesh_check.proofs.GroupFanLemmas.{values-more}
use Rattle.mesh_check.proofs.fan.next_places.Goals as goal

pub loop-corner-preserved : goal.loop-corner-preserved
loop-corner-preserved c =
    values-more (λ a. position_or_len (nat_eq a) c.args.befores.now) c.args.afters.now c.loop-corner.corner-index 0 c.place_in.result _ _ c.loop-corner-test.true c.loop-corner.invariant c.place_in.ensures c.in_ok-push.ensures.items
