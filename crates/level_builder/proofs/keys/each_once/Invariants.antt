use Rattle.std.proofs.Common.{◌≡◌, ◌++◌, length}
use Rattle.level_builder.specs.Keys.{each_once}
use Rattle.level_builder.proofs.keys.each_once.Given as goal

-- the numbers found so far and those of the rest are all
abbrev pub invariant-loop-rest : goal.invariant-loop-rest
invariant-loop-rest l = l.found.items ++ each_once l.rest ≡ each_once l.keys

abbrev pub decreases-loop-rest : goal.decreases-loop-rest
decreases-loop-rest l = length l.rest
