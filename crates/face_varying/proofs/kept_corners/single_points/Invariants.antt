use Rattle.std.proofs.Common.{◌≡◌, ℕ, ◌<◌, nat_eq, length, get_or, false}
use Rattle.face_varying.proofs.kept_corners.single_points.Given as goal

-- the points before this one have their marks
abbrev pub invariant-loop-i : goal.invariant-loop-i
invariant-loop-i l = record {
  marks : (p : ℕ) → p < l.i → get_or l.marks.items p false ≡ nat_eq (get_or l.counts.items p 0) 1;
  size : length l.marks.items ≡ l.i;
}
