use Rattle.std.proofs.Common.{◌≡◌, length, map, take, drop, Some}
use Rattle.std.specs.List.{range_with_len}
use Rattle.flat_arrays.specs.Words.{integer_of}
use Rattle.row_arrays.specs.Rows.{row_sum}
use Rattle.row_arrays.proofs.row.put_row.Given as goal

-- the sums of the components before this one are written
abbrev pub invariant-loop-component : goal.invariant-loop-component
invariant-loop-component l = record {
  written : map Some (map integer_of (take l.component l.out)) ≡ map (row_sum l.rows l.controls l.row) (range_with_len 0 l.component);
  rest : drop l.component l.out ≡ drop l.component l.fn.out;
  len : length l.out ≡ length l.fn.out;
}
