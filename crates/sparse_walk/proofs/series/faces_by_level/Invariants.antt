use Rattle.std.proofs.Common.{◌≡◌, map}
use Rattle.sparse_walk.specs.Levels.{faces_of}
use Rattle.sparse_walk.proofs.series.faces_by_level.Given as goal

-- the faces of the levels so far
abbrev pub invariant-loop-level : goal.invariant-loop-level
invariant-loop-level l = l.faces.items ≡ map faces_of l.yielded
