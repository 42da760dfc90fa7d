use Rattle.std.proofs.Common.{◌≡◌, ◌+◌, map}
use Rattle.level_topology.specs.ChildTables.{place_of}
use Rattle.child_slots.specs.Parts.{part}
use Rattle.sparse_refiner.specs.Tables.{first_faces}
use Rattle.sparse_refiner.proofs.faces.put_faces.Given as goal

-- the faces so far are put
abbrev pub invariant-loop-i : goal.invariant-loop-i
invariant-loop-i g l = record {
  put : l.faces ≡ first_faces l.shape.level.now.level (part (map place_of l.shape.places.now) (g.P.ChildPoints.has l.shape.points.now) (g.P.ChildPoints.number l.shape.points.now)) l.i;
  steps : l.steps ≡ l.fn.steps + l.i;
}
