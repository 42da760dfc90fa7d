use Rattle.std.proofs.Common.{◌≡◌, map, take}
use Rattle.sharpness_rules.specs.View.{sharpness_of}
use Rattle.child_slots.specs.HalfTable.{ring_listed}
use Rattle.child_slots.proofs.halves.put_ring.Given as goal

-- the sharpness of the edges so far is written
abbrev pub invariant-loop-i : goal.invariant-loop-i
invariant-loop-i l = map sharpness_of l.ring.items ≡ take l.i (ring_listed l.level l.v)
