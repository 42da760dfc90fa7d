use Rattle.std.proofs.Common.{◌≡◌, ◌+◌, ◌++◌, length, map, drop}
use Rattle.std.specs.Vec.{vec_capacity}
use Rattle.place_sums.specs.Touched.{moved, cleared}
use Rattle.place_sums.proofs.entries.move_sums.Given as goal

-- The present numbers, then the sums of the remaining places, are the numbers for all places.
abbrev pub invariant-loop-place : goal.invariant-loop-place
invariant-loop-place g l = record {
  numbers : map g.T.Natural.value l.numbers.items ++ map (λ share. share.1) (moved (drop l.place-index l.places) (map g.T.Natural.value l.sums.items))
      ≡ map g.T.Natural.value l.fn.numbers.items ++ map (λ share. share.1) (moved l.places (map g.T.Natural.value l.fn.sums.items));
  sums : cleared (drop l.place-index l.places) (map g.T.Natural.value l.sums.items) ≡ cleared l.places (map g.T.Natural.value l.fn.sums.items);
  long : length l.sums.items ≡ length l.fn.sums.items;
  count : length l.numbers.items ≡ length l.fn.numbers.items + l.place-index;
  capacity : vec_capacity l.numbers ≡ vec_capacity l.fn.numbers;
}
