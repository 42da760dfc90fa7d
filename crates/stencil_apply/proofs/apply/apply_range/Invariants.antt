use Rattle.std.proofs.Common.{◌≡◌, ℕ, ◌+◌, ◌<◌, ◌≤◌, length, map, take, drop, get_or}
use Rattle.ratio128.specs.Numbers.{zeros}
use Rattle.stencil_apply.specs.Table.{row_at, entries_of, sum_of_row}
use Rattle.stencil_apply.proofs.apply.apply_range.Given as goal

-- the places so far have their sums, and the others are as they were
abbrev pub invariant-loop-k : goal.invariant-loop-k
invariant-loop-k g l = record {
  done : (k : ℕ) (d : g.row.P.Denot) → k < l.k → g.P.Primvar.numbers (get_or l.out k d) ≡ sum_of_row (zeros (g.P.Primvar.numbers (get_or l.fn.out k d))) (map g.P.Primvar.numbers l.controls) (row_at l.table (l.from + k));
  rest : (k : ℕ) (d : g.row.P.Denot) → l.k ≤ k → get_or l.out k d ≡ get_or l.fn.out k d;
  len : length l.out ≡ length l.fn.out;
  taken : l.steps ≡ l.fn.steps + entries_of (take l.k (drop l.from l.table.rows));
}
