use Rattle.std.proofs.Common.{◌≡◌, ◌+◌}
use Rattle.child_slots.specs.Slots.{first_child}
use Rattle.uniform_refiner.specs.Put.{with_children}
use Rattle.uniform_refiner.proofs.faces.put_children.Given as goal

-- the child faces of the corners so far are put
abbrev pub invariant-loop-c : goal.invariant-loop-c
invariant-loop-c g l = record {
  put : l.rows ≡ with_children l.level.level (first_child l.level.level.polygons l.f + l.c) l.fn.rows;
  steps : l.steps ≡ l.fn.steps + l.c;
}
