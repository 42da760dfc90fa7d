use Rattle.std.proofs.Common.{◌≡◌, map, take}
use Rattle.level_topology.specs.ChildTables.{place_of}
use Rattle.sparse_refiner.specs.Tables.{hole_at}
use Rattle.sparse_refiner.proofs.faces.hole_marks.Given as goal

-- the marks so far are put
abbrev pub invariant-loop-i : goal.invariant-loop-i
invariant-loop-i l = l.holes.items ≡ map (hole_at l.level.level) (take l.i (map place_of l.places))
