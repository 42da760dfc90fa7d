use Rattle.std.proofs.Common.{◌≡◌, map, take}
use Rattle.level_topology.specs.ChildTables.{place_of}
use Rattle.uniform_refiner.specs.Uniform.{all_places}
use Rattle.uniform_refiner.proofs.origins.put_places.Given as goal

-- the places of the faces so far
abbrev pub invariant-loop-f : goal.invariant-loop-f
invariant-loop-f l = map place_of l.places.items ≡ all_places 0 (take l.f l.level.level.polygons)
