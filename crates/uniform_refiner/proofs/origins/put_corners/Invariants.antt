use Rattle.std.proofs.Common.{◌≡◌, ◌++◌, map}
use Rattle.std.specs.List.{range_with_len}
use Rattle.level_topology.specs.ChildTables.{place_of}
use Rattle.uniform_refiner.proofs.origins.put_corners.Given as goal

-- the places of the corners so far
abbrev pub invariant-loop-c : goal.invariant-loop-c
invariant-loop-c l = map place_of l.places.items ≡ map place_of l.fn.places.items ++ map (λ c. (l.f, c)) (range_with_len 0 l.c)
