use Rattle.std.proofs.Common.{◌≡◌, ◌-◌, ◌^◌, min, take}
use Rattle.stencil_apply.specs.Arrays.{shares_of}
use Rattle.stencil_apply.specs.Table.{total_of}
use Rattle.table_file.proofs.row.sums_to.Given as goal

-- the total is that of the entries so far, or the greatest number
abbrev pub invariant-loop-entry : goal.invariant-loop-entry
invariant-loop-entry l = l.total ≡ min (total_of (shares_of (take l.entry-index l.row))) (2 ^ 128 - 1)
