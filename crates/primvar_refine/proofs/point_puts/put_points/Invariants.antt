use Rattle.std.proofs.Common.{◌≡◌, ◌+◌, take, length}
use Rattle.std.specs.List.{sum_by}
use Rattle.mask_rules.specs.View.{scheme_of}
use Rattle.primvar_refine.specs.View.{rows_of}
use Rattle.primvar_refine.specs.Made.{KeepDens, AreFacesMade, AreOthersMade, terms_of_other}
use Rattle.primvar_refine.specs.Places.{all_origins}
use Rattle.primvar_refine.proofs.point_puts.put_points.Given as goal

-- the denominators and the values of faces stay, those of the points so far are made, and the steps so far
abbrev pub invariant-loop-p : goal.invariant-loop-p
invariant-loop-p g l = record {
  dens : KeepDens (rows_of g.P.Primvar.numbers l.fn.made) (rows_of g.P.Primvar.numbers l.made);
  faces : AreFacesMade l.parent.level (rows_of g.P.Primvar.numbers l.values) (all_origins l.child.origins l.places.hidden.items)
      (length (all_origins l.child.origins l.places.hidden.items)) (rows_of g.P.Primvar.numbers l.made);
  others : AreOthersMade l.parent.level (scheme_of l.scheme) (rows_of g.P.Primvar.numbers l.values) l.child.origins l.p (rows_of g.P.Primvar.numbers l.made);
  taken : l.steps ≡ l.fn.steps + sum_by (terms_of_other l.parent.level (scheme_of l.scheme)) (take l.p l.child.origins);
}
