use Rattle.std.proofs.Common.{map}
use Rattle.sharpness_rules.specs.View.{sharpness_of}
use Rattle.child_slots.specs.HalfTable.{AreHalvesPut}
use Rattle.child_slots.proofs.halves.put_by_points.Given as goal

-- the halves at the points so far are written
abbrev pub invariant-loop-v : goal.invariant-loop-v
invariant-loop-v g l = AreHalvesPut l.level (g.P.ChildPoints.has l.points) l.v 0 (map sharpness_of l.halves)
