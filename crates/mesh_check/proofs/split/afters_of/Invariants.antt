use Rattle.std.proofs.Common.{◌≡◌, ◌++◌, map, length}
use Rattle.mesh_check.proofs.split.afters_of.Given as goal

-- the corners that are there, and those of the rest, are all
abbrev pub invariant-loop-rest : goal.invariant-loop-rest
invariant-loop-rest l = l.corners.items ++ map (λ turn. turn.after) l.rest ≡ map (λ turn. turn.after) l.turns

abbrev pub decreases-loop-rest : goal.decreases-loop-rest
decreases-loop-rest l = length l.rest
