use Rattle.std.proofs.Common.{◌≡◌, true, false, take, get_or}
use Rattle.std.specs.List.{list_all}
use Rattle.sparse_level.proofs.complete.are_marked.Given as goal

-- the vertices so far are marked
abbrev pub invariant-loop-v : goal.invariant-loop-v
invariant-loop-v l = list_all (λ v. get_or l.on v false) (take l.v-index l.vertices) ≡ true
