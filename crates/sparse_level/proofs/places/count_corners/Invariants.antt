use Rattle.std.proofs.Common.{◌≡◌, false, take, get_or}
use Rattle.std.specs.List.{count_by}
use Rattle.sparse_level.proofs.places.count_corners.Given as goal

-- the corners so far
abbrev pub invariant-loop-v : goal.invariant-loop-v
invariant-loop-v l = l.count ≡ count_by (λ v. get_or l.on v false) (take l.v-index l.corners)
