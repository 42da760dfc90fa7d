use Rattle.std.proofs.Common.{◌≡◌, ◌+◌, take, map, get_or, []}
use Rattle.level_topology.specs.Topology.{corner_of}
use Rattle.child_slots.specs.Slots.{first_child}
use Rattle.uniform_refiner.proofs.vertices.put_children_at.Given as goal

-- the child faces so far are in the list
abbrev pub invariant-loop-i : goal.invariant-loop-i
invariant-loop-i l = l.list.items ≡ map (λ f. first_child l.level.level.polygons f + corner_of l.level.level.polygons l.v f) (take l.i (get_or l.level.faces_at l.v []))
