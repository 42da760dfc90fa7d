use Rattle.std.proofs.Common.{◌≡◌, length, take, drop}
use Rattle.nearest_float.specs.Binary.{binary64}
use Rattle.nearest_float.specs.NearestArrays.{AreNearest}
use Rattle.stencil_apply.specs.Table.{entries_of}
use Rattle.table_arrays.specs.Flat.{fractions_of}
use Rattle.table_arrays.proofs.doubles.put_weights64.Given as goal

-- the weights of the rows so far
abbrev pub invariant-loop-row : goal.invariant-loop-row
invariant-loop-row l = record {
  at : l.at ≡ entries_of (take l.row l.table.rows);
  written : AreNearest binary64 (fractions_of (take l.row l.table.rows)) (take l.at l.out);
  rest : drop (entries_of l.table.rows) l.out ≡ drop (entries_of l.table.rows) l.fn.out;
  len : length l.out ≡ length l.fn.out;
}
