use Rattle.std.proofs.Common.{take}
use Rattle.primvar_refine.specs.Greatest.{IsGreatestAt}
use Rattle.primvar_refine.proofs.bound.greatest_of.Given as goal

-- the greatest so far
abbrev pub invariant-loop-p : goal.invariant-loop-p
invariant-loop-p l = IsGreatestAt (take l.p l.dens.items) l.greatest.den l.greatest.place
