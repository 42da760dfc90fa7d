use Rattle.std.proofs.Common.{◌≡◌, ℕ, ◌<◌, ◌||◌, nat_eq, length, get_or}
use Rattle.subdiv_model.specs.Polygons.{is_among}
use Rattle.mesh_check.proofs.marks.marks_of.Given as goal

-- a place is marked or among the rest exactly where it is among the places
abbrev pub invariant-loop-rest : goal.invariant-loop-rest
invariant-loop-rest l = record {
  size : length l.marks.items ≡ l.count;
  set : (j : ℕ) → j < l.count → (nat_eq (get_or l.marks.items j 0) 1 || is_among l.rest j) ≡ is_among l.places j;
}

abbrev pub decreases-loop-rest : goal.decreases-loop-rest
decreases-loop-rest l = length l.rest
