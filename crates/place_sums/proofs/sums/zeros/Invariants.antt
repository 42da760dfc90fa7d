use Rattle.std.proofs.Common.{◌≡◌, ◌≤◌, length, map, replicate}
use Rattle.std.specs.Vec.{vec_capacity}
use Rattle.place_sums.proofs.sums.zeros.Given as goal

-- The list has one 0 for each round.
abbrev pub invariant-loop : goal.invariant-loop
invariant-loop g l = record {
  zeros : map g.T.Natural.value l.zeros.items ≡ replicate l.counter 0;
  count : length l.zeros.items ≡ l.counter;
  capacity : l.count ≤ vec_capacity l.zeros;
}
