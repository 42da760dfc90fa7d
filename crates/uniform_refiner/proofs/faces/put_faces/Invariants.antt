use Rattle.std.proofs.Common.{◌≡◌, ◌+◌}
use Rattle.child_slots.specs.Slots.{first_child}
use Rattle.uniform_refiner.specs.Put.{with_children}
use Rattle.uniform_refiner.proofs.faces.put_faces.Given as goal

-- the child faces of the faces so far are put
abbrev pub invariant-loop-f : goal.invariant-loop-f
invariant-loop-f g l = record {
  put : l.rows ≡ with_children l.level.level (first_child l.level.level.polygons l.f) l.fn.rows;
  steps : l.steps ≡ l.fn.steps + first_child l.level.level.polygons l.f;
}
