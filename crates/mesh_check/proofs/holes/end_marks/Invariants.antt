use Rattle.std.proofs.Common.{◌≡◌, ℕ, ◌<◌, ◌||◌, nat_eq, length, get_or}
use Rattle.std.specs.List.{list_any}
use Rattle.subdiv_model.specs.Edges.{has_end}
use Rattle.mesh_check.proofs.holes.end_marks.Given as goal

-- a point is marked or an end of the rest exactly where it is an end
abbrev pub invariant-loop-rest : goal.invariant-loop-rest
invariant-loop-rest l = record {
  size : length l.marks.items ≡ l.count;
  ends : (v : ℕ) → v < l.count → (nat_eq (get_or l.marks.items v 0) 1 || list_any (has_end v) l.rest) ≡ list_any (has_end v) l.sides;
}

abbrev pub decreases-loop-rest : goal.decreases-loop-rest
decreases-loop-rest l = length l.rest
