use Rattle.std.proofs.Common.{◌≡◌, take, map, get_or, []}
use Rattle.child_slots.specs.Slots.{half_slot}
use Rattle.child_slots.specs.Slotted.{number_at}
use Rattle.uniform_refiner.proofs.vertices.put_halves_at.Given as goal

-- the halves so far are in the list
abbrev pub invariant-loop-i : goal.invariant-loop-i
invariant-loop-i l = l.list.items ≡ map (λ e. number_at l.edges.slots (half_slot l.level.level.polygons l.v e)) (take l.i (get_or l.level.edges_at l.v []))
