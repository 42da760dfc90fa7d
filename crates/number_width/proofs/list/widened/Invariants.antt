use Rattle.std.proofs.Common.{◌≡◌, ◌≤◌, length, take}
use Rattle.std.specs.Vec.{vec_capacity}
use Rattle.number_width.proofs.list.widened.Given as goal

-- the numbers before this one are there
abbrev pub invariant-loop-number : goal.invariant-loop-number
invariant-loop-number l = record {
  items : l.wide.items ≡ take l.number-index l.narrow.items;
  count : length l.wide.items ≡ l.number-index;
  capacity : l.capacity ≤ vec_capacity l.wide;
}
