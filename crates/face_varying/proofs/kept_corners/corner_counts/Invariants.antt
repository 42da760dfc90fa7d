use Rattle.std.proofs.Common.{◌≡◌, ℕ, ◌<◌, nat_eq, length, get_or, take, min}
use Rattle.std.specs.List.{count_by}
use Rattle.face_varying.proofs.kept_corners.corner_counts.Given as goal

-- the corners before this one are counted
abbrev pub invariant-loop-point : goal.invariant-loop-point
invariant-loop-point l = record {
  counts : (p : ℕ) → p < l.points → get_or l.counts.items p 0 ≡ min (count_by (nat_eq p) (take l.point-index l.numbers)) 255;
  size : length l.counts.items ≡ l.points;
}
