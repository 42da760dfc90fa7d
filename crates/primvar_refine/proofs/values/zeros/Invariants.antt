use Rattle.std.proofs.Common.{◌≡◌, ◌+◌, ◌≤◌, length, take}
use Rattle.std.specs.Vec.{vec_capacity}
use Rattle.primvar_refine.specs.Rows.{dens_of}
use Rattle.primvar_refine.specs.View.{rows_of}
use Rattle.primvar_refine.proofs.values.zeros.Given as goal

-- the zeros of the points so far, and the memory left for all others
abbrev pub invariant-loop-den : goal.invariant-loop-den
invariant-loop-den g l = record {
  dens_are : dens_of (rows_of g.P.Primvar.numbers l.made.items) ≡ take l.den-index l.dens;
  count : length l.made.items ≡ l.den-index;
  fits : length l.dens + length l.hidden ≤ vec_capacity l.made;
}
