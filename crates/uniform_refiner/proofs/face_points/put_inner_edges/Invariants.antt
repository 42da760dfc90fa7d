use Rattle.std.proofs.Common.{◌≡◌, map, length}
use Rattle.std.specs.List.{range_with_len}
use Rattle.subdiv_model.specs.Polygons.{polygon_at}
use Rattle.child_slots.specs.Slots.{inner_slot, turn_at}
use Rattle.child_slots.specs.Slotted.{number_at}
use Rattle.uniform_refiner.proofs.face_points.put_inner_edges.Given as goal

-- the edges so far are in the list
abbrev pub invariant-loop-i : goal.invariant-loop-i
invariant-loop-i l = l.list.items ≡ map (λ i. number_at l.edges.slots (inner_slot l.level.level.polygons l.f (turn_at (length (polygon_at l.level.level.polygons l.f)) i))) (range_with_len 0 l.i)
