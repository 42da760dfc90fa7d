use Rattle.std.proofs.Common.{◌≡◌, ℕ, ◌<◌, length}
use Rattle.std.specs.List.{sum_by}
use Rattle.face_varying.specs.Fans.{HasRuns, face_count}
use Rattle.face_varying.proofs.fans.joined_corners.Given as goal

-- the corners at the vertices before this one have their labels
abbrev pub invariant-loop-v : goal.invariant-loop-v
invariant-loop-v l = record {
  corners : length l.labels.items ≡ sum_by length l.level.level.polygons;
  runs : (w : ℕ) → w < l.v → HasRuns l.level l.apart w (face_count l.level w) l.labels.items;
}
