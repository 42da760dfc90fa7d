use Rattle.std.proofs.Common.{◌≡◌, ◌-◌, ◌^◌, min, take}
use Rattle.stencil_apply.specs.Arrays.{shares_of}
use Rattle.subdiv_model.specs.Table.{total_of}
use Rattle.table_arrays.proofs.entries.sum_to.Given as goal

-- the total is that of the entries so far, or the greatest number
abbrev pub invariant-loop-entry : goal.invariant-loop-entry
invariant-loop-entry l = l.total ≡ min (total_of (shares_of (take l.entry-index l.entries))) (2 ^ 128 - 1)
