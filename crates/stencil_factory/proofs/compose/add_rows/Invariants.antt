use Rattle.std.proofs.Common.{◌≡◌, drop}
use Rattle.stencil_factory.specs.Composing.{added_rows, CanAddRows}
use Rattle.stencil_factory.proofs.compose.add_rows.Given as goal

-- Adding the remaining rows to the present sums gives the same as adding all rows to the first sums.
abbrev pub invariant-loop-i : goal.invariant-loop-i
invariant-loop-i g l = record {
  all : added_rows l.table (drop l.i l.weights) l.sums ≡ added_rows l.table l.weights l.fn.sums;
  can : CanAddRows g.T.Natural.most l.table (drop l.i l.weights) l.sums;
}
