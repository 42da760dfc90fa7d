use Rattle.std.proofs.Common.{◌≡◌, ℕ, ◌<◌, false, nat_eq, get_or}
use Rattle.patch_bspline.proofs.points.place_of.Given as goal

-- none of the faces so far
abbrev pub invariant-loop-i : goal.invariant-loop-i
invariant-loop-i l = (k : ℕ) → k < l.i → nat_eq l.face (get_or l.faces k 0) ≡ false
