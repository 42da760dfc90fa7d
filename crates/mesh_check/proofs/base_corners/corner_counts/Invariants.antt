use Rattle.std.proofs.Common.{◌≡◌, ℕ, nat_eq, length, get_or, take}
use Rattle.std.specs.List.{count_by, sum_by}
use Rattle.mesh_check.proofs.base_corners.corner_counts.Given as goal

-- the corners of the faces before this one are counted
abbrev pub invariant-loop-f : goal.invariant-loop-f
invariant-loop-f l = record {
  counts : (v : ℕ) → get_or l.counts.items v 0 ≡ sum_by (count_by (nat_eq v)) (take l.f l.raw.faces);
  size : length l.counts.items ≡ length l.raw.points;
}
