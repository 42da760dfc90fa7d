use Rattle.std.proofs.Common.{◌≡◌, take, map}
use Rattle.child_slots.specs.Slotted.{end_in}
use Rattle.child_slots.proofs.row.put_ends.Given as goal

-- the ends of the edges so far are written
abbrev pub invariant-loop-i : goal.invariant-loop-i
invariant-loop-i l = l.ends.items ≡ map (end_in l.edges.ends l.point) (take l.i l.list)
