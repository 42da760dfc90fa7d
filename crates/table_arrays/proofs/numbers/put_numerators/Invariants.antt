use Rattle.std.proofs.Common.{◌≡◌, length, map, take, drop}
use Rattle.flat_arrays.specs.Words.{natural_of}
use Rattle.stencil_apply.specs.Table.{entries_of}
use Rattle.table_arrays.specs.Flat.{numerators_of}
use Rattle.table_arrays.proofs.numbers.put_numerators.Given as goal

-- the numerators of the rows so far
abbrev pub invariant-loop-row : goal.invariant-loop-row
invariant-loop-row l = record {
  at : l.at ≡ entries_of (take l.row l.table.rows);
  written : map natural_of (take l.at l.out) ≡ numerators_of (take l.row l.table.rows);
  rest : drop (entries_of l.table.rows) l.out ≡ drop (entries_of l.table.rows) l.fn.out;
  len : length l.out ≡ length l.fn.out;
}
