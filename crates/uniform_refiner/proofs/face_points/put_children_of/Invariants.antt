use Rattle.std.proofs.Common.{◌≡◌, ◌+◌, map, length}
use Rattle.std.specs.List.{range_with_len}
use Rattle.subdiv_model.specs.Polygons.{polygon_at}
use Rattle.child_slots.specs.Slots.{first_child, turn_at}
use Rattle.uniform_refiner.proofs.face_points.put_children_of.Given as goal

-- the child faces so far are in the list
abbrev pub invariant-loop-i : goal.invariant-loop-i
invariant-loop-i l = l.list.items ≡ map (λ i. first_child l.level.level.polygons l.f + turn_at (length (polygon_at l.level.level.polygons l.f)) i) (range_with_len 0 l.i)
