use Rattle.std.proofs.Common.{◌≡◌, ◌++◌, map, length}
use Rattle.level_builder.specs.Keys.{AreWords, key_by}
use Rattle.level_builder.proofs.keys.keys_by.Given as goal

-- the numbers that are there, and those of the rest, are all
abbrev pub invariant-loop-rest : goal.invariant-loop-rest
invariant-loop-rest l = record {
  keys : l.keys.items ++ map (key_by l.directed) l.rest ≡ map (key_by l.directed) l.sides;
  words : AreWords l.rest → AreWords l.sides;
}

abbrev pub decreases-loop-rest : goal.decreases-loop-rest
decreases-loop-rest l = length l.rest
