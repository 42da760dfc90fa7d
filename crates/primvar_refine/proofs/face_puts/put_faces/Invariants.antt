use Rattle.std.proofs.Common.{◌≡◌, ◌+◌, take}
use Rattle.std.specs.List.{sum_by}
use Rattle.primvar_refine.specs.View.{rows_of}
use Rattle.primvar_refine.specs.Made.{AreFacesMade, KeepDens, terms_of_face}
use Rattle.primvar_refine.proofs.face_puts.put_faces.Given as goal

-- the denominators stay, the values of the points so far are made, and the steps so far
abbrev pub invariant-loop-p : goal.invariant-loop-p
invariant-loop-p g l = record {
  dens : KeepDens (rows_of g.P.Primvar.numbers l.fn.made) (rows_of g.P.Primvar.numbers l.made);
  faces : AreFacesMade l.parent.level (rows_of g.P.Primvar.numbers l.values) l.child.origins l.p (rows_of g.P.Primvar.numbers l.made);
  taken : l.steps ≡ l.fn.steps + sum_by (terms_of_face l.parent.level) (take l.p l.child.origins);
}
