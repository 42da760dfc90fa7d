use Rattle.std.proofs.Common.{◌≡◌, length}
use Rattle.subdiv_model.specs.ReadTable.{are_shares_in_range}
use Rattle.stencil_apply.specs.Arrays.{shares_of}
use Rattle.table_arrays.proofs.entries.are_in_range.Given as goal

-- the test of the entries that are left is the test of all entries
abbrev pub invariant-loop-rest : goal.invariant-loop-rest
invariant-loop-rest l = are_shares_in_range l.controls l.least (shares_of l.rest) ≡ are_shares_in_range l.controls 0 (shares_of l.entries)

abbrev pub decreases-loop-rest : goal.decreases-loop-rest
decreases-loop-rest l = length l.rest
