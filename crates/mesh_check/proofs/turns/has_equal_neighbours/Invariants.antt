use Rattle.std.proofs.Common.{◌≡◌, map, length}
use Rattle.level_builder.specs.Keys.{has_equal_after, has_equal_neighbours}
use Rattle.mesh_check.specs.Turns.{turn_key}
use Rattle.mesh_check.proofs.turns.has_equal_neighbours.Given as goal

-- the corners from here on decide
abbrev pub invariant-loop-rest : goal.invariant-loop-rest
invariant-loop-rest l = has_equal_after l.key (map turn_key l.rest) ≡ has_equal_neighbours (map turn_key l.turns)

abbrev pub decreases-loop-rest : goal.decreases-loop-rest
decreases-loop-rest l = length l.rest
