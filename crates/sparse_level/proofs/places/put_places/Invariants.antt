use Rattle.std.proofs.Common.{◌≡◌, map, take}
use Rattle.level_topology.specs.ChildTables.{place_of}
use Rattle.sparse_level.specs.Places.{marked_places}
use Rattle.sparse_level.proofs.places.put_places.Given as goal

-- the corners of the faces so far
abbrev pub invariant-loop-f : goal.invariant-loop-f
invariant-loop-f l = map place_of l.places.items ≡ marked_places l.on 0 (take l.f l.level.level.polygons)
