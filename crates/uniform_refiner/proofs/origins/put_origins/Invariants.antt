use Rattle.std.proofs.Common.{◌≡◌, map}
use Rattle.std.specs.List.{range_with_len}
use Rattle.level_topology.specs.ChildTables.{origin_of, numbered_origin}
use Rattle.uniform_refiner.proofs.origins.put_origins.Given as goal

-- the origins of the points so far
abbrev pub invariant-loop-n : goal.invariant-loop-n
invariant-loop-n l = map origin_of l.origins.items ≡ map (numbered_origin l.vertices l.faces) (range_with_len 0 l.n)
