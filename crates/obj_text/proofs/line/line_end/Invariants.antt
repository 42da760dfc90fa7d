use Rattle.std.proofs.Common.{◌≡◌, ℕ, ◌<◌, false, get_or}
use Rattle.subdiv_model.specs.ObjLine.{is_lf}
use Rattle.obj_text.proofs.line.line_end.Given as goal

abbrev pub invariant-loop-i : goal.invariant-loop-i
invariant-loop-i l = (k : ℕ) → k < l.i → is_lf (get_or l.rest k 0) ≡ false
