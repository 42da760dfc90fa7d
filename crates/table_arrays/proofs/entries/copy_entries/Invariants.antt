use Rattle.std.proofs.Common.{◌≡◌}
use Rattle.stencil_apply.specs.Arrays.{shares_of}
use Rattle.table_arrays.specs.Rows.{share_range}
use Rattle.table_arrays.proofs.entries.copy_entries.Given as goal

-- the entries so far
abbrev pub invariant-loop-at : goal.invariant-loop-at
invariant-loop-at l = shares_of l.entries.items ≡ share_range l.rows l.from l.at
