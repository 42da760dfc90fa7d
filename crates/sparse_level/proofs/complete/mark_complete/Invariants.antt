use Rattle.std.proofs.Common.{◌≡◌, ℕ, List, map, take}
use Rattle.sparse_laws.specs.NextSparse.{has_all_faces}
use Rattle.sparse_level.specs.Places.{marks_on}
use Rattle.sparse_level.proofs.complete.mark_complete.Given as goal

-- the marks of the points so far
abbrev pub invariant-loop-n : goal.invariant-loop-n
invariant-loop-n l = (selected : List ℕ) → l.on ≡ marks_on l.level.level selected → l.complete.items ≡ map (has_all_faces l.level.level selected) (take l.n-index l.points)
