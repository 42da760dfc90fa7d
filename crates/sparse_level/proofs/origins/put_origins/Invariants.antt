use Rattle.std.proofs.Common.{◌≡◌, length, map, take}
use Rattle.level_topology.specs.ChildTables.{origin_of, numbered_origin}
use Rattle.sparse_level.proofs.origins.put_origins.Given as goal

-- the origins of the points so far
abbrev pub invariant-loop-n : goal.invariant-loop-n
invariant-loop-n l = map origin_of l.origins.items ≡ map (numbered_origin l.level.level.point_count (length l.level.level.polygons)) (take l.n-index l.points)
