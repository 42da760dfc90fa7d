use Rattle.std.proofs.Common.{◌≡◌, ℕ, ◌<◌, true, nat_eq, get_or}
use Rattle.mesh_check.proofs.chain.first_bare.Given as goal

abbrev pub invariant-loop-j : goal.invariant-loop-j
invariant-loop-j l = (k : ℕ) → k < l.j → nat_eq (get_or l.marks k 0) 1 ≡ true
