use Rattle.std.proofs.Common.{◌≡◌, replicate}
use Rattle.child_slots.proofs.row.put_corner.Given as goal

-- the list has as many copies as rounds are done
abbrev pub invariant-loop-i : goal.invariant-loop-i
invariant-loop-i l = l.at.items ≡ replicate l._i l.corner
