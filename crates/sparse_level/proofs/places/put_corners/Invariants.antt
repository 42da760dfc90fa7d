use Rattle.std.proofs.Common.{◌≡◌, ◌++◌, map, take}
use Rattle.subdiv_model.specs.Polygons.{polygon_at}
use Rattle.level_topology.specs.ChildTables.{place_of}
use Rattle.sparse_level.specs.Places.{marked_corners}
use Rattle.sparse_level.proofs.places.put_corners.Given as goal

-- the corners so far
abbrev pub invariant-loop-c : goal.invariant-loop-c
invariant-loop-c l = map place_of l.places.items ≡ map place_of l.fn.places.items ++ marked_corners l.on l.f (take l.c (polygon_at l.level.level.polygons l.f))
