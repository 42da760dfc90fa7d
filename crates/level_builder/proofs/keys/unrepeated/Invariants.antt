use Rattle.std.proofs.Common.{◌≡◌, ◌++◌, false, length}
use Rattle.level_builder.specs.Keys.{unrepeated_after}
use Rattle.level_builder.proofs.keys.unrepeated.Given as goal

-- the numbers found so far and those of the rest are all
abbrev pub invariant-loop-rest : goal.invariant-loop-rest
invariant-loop-rest l = l.found.items ++ unrepeated_after l.again l.rest ≡ unrepeated_after false l.keys

abbrev pub decreases-loop-rest : goal.decreases-loop-rest
decreases-loop-rest l = length l.rest
