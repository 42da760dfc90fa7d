use Rattle.std.proofs.Common.{◌≡◌, ◌+◌, ◌≤◌, map, length, take}
use Rattle.channel_refine.specs.SparseComposed.{valued_from, entries_in}
use Rattle.channel_refine.specs.SparseView.{all_rows}
use Rattle.channel_refine.proofs.sparse_valued.all_values.Given as goal

-- the levels so far
abbrev pub invariant-loop-level : goal.invariant-loop-level
invariant-loop-level g l = record {
  values : all_rows g.P.Primvar.numbers l.levels.items ≡ valued_from (map g.P.Primvar.numbers l.controls) l.first 0 (take (length l.yielded) l.fn.kept.items);
  count : length l.levels.items ≡ length l.yielded;
  most : l.steps ≤ l.fn.steps + entries_in l.first 0 (take (length l.yielded) l.fn.kept.items);
  later : l.fn.steps ≤ l.steps;
}
