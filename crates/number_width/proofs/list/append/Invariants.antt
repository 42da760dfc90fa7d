use Rattle.std.proofs.Common.{◌≡◌, ◌+◌, ◌++◌, length, map, take}
use Rattle.std.specs.Vec.{vec_capacity}
use Rattle.number_width.proofs.list.append.Given as goal

-- the numbers before this one are appended
abbrev pub invariant-loop-number : goal.invariant-loop-number
invariant-loop-number g l = record {
  items : map g.T.Natural.value l.items.items ≡ map g.T.Natural.value l.fn.items.items ++ map g.S.Natural.value (take l.number-index l.numbers);
  count : length l.items.items ≡ length l.fn.items.items + l.number-index;
  capacity : vec_capacity l.items ≡ vec_capacity l.fn.items;
}
