use Rattle.std.proofs.Common.{◌≡◌, take}
use Rattle.primvar_refine.specs.Rows.{dens_of}
use Rattle.primvar_refine.specs.View.{rows_of}
use Rattle.primvar_refine.proofs.dens.denominators.Given as goal

-- the denominators of the values so far
abbrev pub invariant-loop-value : goal.invariant-loop-value
invariant-loop-value g l = l.dens.items ≡ take l.value-index (dens_of (rows_of g.P.Primvar.numbers l.values))
