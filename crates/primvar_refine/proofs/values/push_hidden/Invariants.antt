use Rattle.std.proofs.Common.{◌≡◌, ◌+◌, ◌++◌, length, map, take, get_or}
use Rattle.std.specs.Vec.{vec_capacity}
use Rattle.primvar_refine.specs.Rows.{dens_of}
use Rattle.primvar_refine.specs.View.{rows_of}
use Rattle.primvar_refine.proofs.values.push_hidden.Given as goal

-- the zeros of the faces so far, and the memory left for the rest
abbrev pub invariant-loop-f : goal.invariant-loop-f
invariant-loop-f g l = record {
  dens_are : dens_of (rows_of g.P.Primvar.numbers l.made.items) ≡ dens_of (rows_of g.P.Primvar.numbers l.fn.made.items) ++ map (λ f. get_or l.dens f 0) (take l.f-index l.hidden);
  count : length l.made.items ≡ length l.fn.made.items + l.f-index;
  capacity : vec_capacity l.made ≡ vec_capacity l.fn.made;
}
