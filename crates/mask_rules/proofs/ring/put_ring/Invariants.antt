use Rattle.std.proofs.Common.{◌≡◌, map, take}
use Rattle.sharpness_rules.specs.View.{sharpness_of}
use Rattle.mask_rules.specs.Around.{ring_in}
use Rattle.mask_rules.proofs.ring.put_ring.Given as goal

abbrev pub invariant-loop-place : goal.invariant-loop-place
invariant-loop-place l = map sharpness_of (take l.place l.ring) ≡ take l.place (ring_in l.level l.v)
