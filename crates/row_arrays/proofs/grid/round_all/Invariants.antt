use Rattle.std.proofs.Common.{◌≤◌, take}
use Rattle.row_arrays.specs.Floats.{bits_of, format_of}
use Rattle.row_arrays.proofs.RoundedLemmas.{AreGrid}
use Rattle.row_arrays.proofs.grid.round_all.Given as goal

-- the numerators of the numbers before this one are written, and of these so many change
abbrev pub invariant-loop-place : goal.invariant-loop-place
invariant-loop-place l = record {
  few : l.changed ≤ l.place;
  put : AreGrid (format_of l.numbers) l.grid_bits (take l.place (bits_of l.numbers)) l.changed (take l.place l.out);
}
