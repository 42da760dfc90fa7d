use Rattle.std.proofs.Common.{◌≡◌, ◌++◌, length}
use Rattle.mesh_check.specs.Turns.{turns_from, turns_of}
use Rattle.mesh_check.proofs.turns.add_turns.Given as goal

-- the corners so far and the rest are all
abbrev pub invariant-loop-rest : goal.invariant-loop-rest
invariant-loop-rest l = l.turns.items ++ turns_from l.face l.first l.before l.rest ≡ l.fn.turns.items ++ turns_of l.face l.corners

abbrev pub decreases-loop-rest : goal.decreases-loop-rest
decreases-loop-rest l = length l.rest
