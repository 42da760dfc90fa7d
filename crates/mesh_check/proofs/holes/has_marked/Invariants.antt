use Rattle.std.proofs.Common.{◌≡◌, nat_eq, length, get_or}
use Rattle.std.specs.List.{list_any}
use Rattle.mesh_check.proofs.holes.has_marked.Given as goal

-- the corners from here on decide
abbrev pub invariant-loop-rest : goal.invariant-loop-rest
invariant-loop-rest l = list_any (λ v. nat_eq (get_or l.marks v 0) 1) l.rest ≡ list_any (λ v. nat_eq (get_or l.marks v 0) 1) l.face

abbrev pub decreases-loop-rest : goal.decreases-loop-rest
decreases-loop-rest l = length l.rest
