use Rattle.std.proofs.Common.{◌≡◌, ℕ, ◌<◌, false, get_or}
use Rattle.subdiv_model.specs.Numeral.{is_point}
use Rattle.obj_text.proofs.numeral.whole_len.Given as goal

abbrev pub invariant-loop-i : goal.invariant-loop-i
invariant-loop-i l = (k : ℕ) → k < l.i → is_point (get_or l.decimal k 0) ≡ false
