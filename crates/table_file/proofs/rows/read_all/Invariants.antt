use Rattle.std.proofs.Common.{◌≡◌, ◌≤◌, length, drop}
use Rattle.table_file.specs.Rows.{AreRowsOf, read_on}
use Rattle.table_file.proofs.rows.read_all.Given as goal

-- the bytes from this place on are still to be read
abbrev pub invariant-loop-number : goal.invariant-loop-number
invariant-loop-number l = record {
  inside : l.at ≤ length l.bytes;
  good : AreRowsOf l.header l.rows;
  count : length l.rows.builder.table.rows ≡ l.number;
  same : read_on l.header l.fn.rows (drop l.from l.bytes) ≡ read_on l.header l.rows (drop l.at l.bytes);
}
