use Rattle.std.proofs.Common.{◌≡◌, ◌≤◌, length, take}
use Rattle.std.specs.Vec.{vec_capacity}
use Rattle.nearest_float.specs.Binary.{binary64}
use Rattle.nearest_float.specs.Lists.{AreExact}
use Rattle.nearest_float.proofs.list.exact_binary64s.Given as goal

-- the numbers before this one have these fractions
abbrev pub invariant-loop-bits : goal.invariant-loop-bits
invariant-loop-bits l = record {
  exact : AreExact binary64 (take l.bits-index l.numbers) l.fractions.items;
  count : length l.fractions.items ≡ l.bits-index;
  capacity : length l.numbers ≤ vec_capacity l.fractions;
}
