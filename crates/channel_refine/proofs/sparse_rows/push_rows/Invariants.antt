use Rattle.std.proofs.Common.{◌≡◌, ◌+◌, ◌≤◌, length, map, take}
use Rattle.std.specs.Vec.{vec_capacity}
use Rattle.stencil_apply.specs.Table.{entries_of}
use Rattle.primvar_refine.specs.View.{rows_of}
use Rattle.channel_refine.proofs.EvaluatedLemmas.{evaluated_rows}
use Rattle.channel_refine.proofs.SparseRowLemmas.{picked}
use Rattle.channel_refine.proofs.sparse_rows.push_rows.Given as goal

-- the values of the rows so far, the capacity for the others, and the steps
abbrev pub invariant-loop-row : goal.invariant-loop-row
invariant-loop-row g l = record {
  values : rows_of g.P.Primvar.numbers l.values.items ≡ evaluated_rows (map g.P.Primvar.numbers l.controls) (picked l.table (take l.row-index l.rows));
  count : length l.values.items ≡ l.row-index;
  room : length l.rows ≤ vec_capacity l.values;
  taken : l.steps ≡ l.fn.steps + entries_of (picked l.table (take l.row-index l.rows));
}
