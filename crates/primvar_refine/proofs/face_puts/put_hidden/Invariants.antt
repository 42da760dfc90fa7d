use Rattle.std.proofs.Common.{◌≡◌, ℕ, ◌+◌, ◌<◌, take}
use Rattle.std.specs.List.{sum_by}
use Rattle.primvar_refine.specs.Rows.{row_at}
use Rattle.primvar_refine.specs.View.{rows_of}
use Rattle.primvar_refine.specs.Made.{AreHiddenMade, KeepDens, terms_of_hidden}
use Rattle.primvar_refine.proofs.face_puts.put_hidden.Given as goal

-- the denominators and the values before stay, the values of the faces so far are made, and the steps so far
abbrev pub invariant-loop-i : goal.invariant-loop-i
invariant-loop-i g l = record {
  dens : KeepDens (rows_of g.P.Primvar.numbers l.fn.made) (rows_of g.P.Primvar.numbers l.made);
  kept : (q : ℕ) → q < l.first → row_at (rows_of g.P.Primvar.numbers l.made) q ≡ row_at (rows_of g.P.Primvar.numbers l.fn.made) q;
  faces : AreHiddenMade l.parent.level (rows_of g.P.Primvar.numbers l.values) l.first l.hidden l.i (rows_of g.P.Primvar.numbers l.made);
  taken : l.steps ≡ l.fn.steps + sum_by (terms_of_hidden l.parent.level) (take l.i l.hidden);
}
