use Rattle.std.proofs.Common.{◌≡◌, map, take}
use Rattle.subdiv_model.specs.Rule.{child_ring}
use Rattle.sharpness_rules.specs.View.{sharpness_of, method_of}
use Rattle.mask_rules.proofs.ring.put_child_ring.Given as goal

abbrev pub invariant-loop-place : goal.invariant-loop-place
invariant-loop-place l = map sharpness_of (take l.place l.next) ≡ take l.place (child_ring (method_of l.fn.method) (map sharpness_of l.ring))
