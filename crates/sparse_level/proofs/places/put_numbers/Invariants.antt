use Rattle.std.proofs.Common.{◌≡◌, map, take}
use Rattle.level_topology.specs.ChildTables.{place_of}
use Rattle.sparse_laws.specs.NextSparse.{uniform_child}
use Rattle.sparse_level.specs.View.{level_of}
use Rattle.sparse_level.proofs.places.put_numbers.Given as goal

-- the numbers at the places so far
abbrev pub invariant-loop-place : goal.invariant-loop-place
invariant-loop-place l = l.numbers.items ≡ map (λ place. uniform_child (level_of l.sparse) (place_of place)) (take l.place-index l.places)
