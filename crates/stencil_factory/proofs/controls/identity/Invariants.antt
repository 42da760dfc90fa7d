use Rattle.std.proofs.Common.{◌≡◌}
use Rattle.stencil_factory.proofs.ControlLemmas.{own_rows}
use Rattle.stencil_factory.proofs.controls.identity.Given as goal

-- The table has the rows of the first control points.
abbrev pub invariant-loop-v : goal.invariant-loop-v
invariant-loop-v l = l.builder.table ≡ own_rows l.points l.v
