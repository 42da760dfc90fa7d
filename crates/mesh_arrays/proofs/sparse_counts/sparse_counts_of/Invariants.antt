use Rattle.std.proofs.Common.{◌≡◌, ◌*◌, ◌^◌, ◌≤◌, take}
use Rattle.std.specs.List.{sum_by}
use Rattle.mesh_arrays.specs.SparseFlat.{point_count, face_count, corner_count}
use Rattle.mesh_arrays.proofs.sparse_counts.sparse_counts_of.Given as goal

-- the counts of the levels so far, which fit 32 bits each
abbrev pub invariant-loop-level : goal.invariant-loop-level
invariant-loop-level l = record {
  points : l.points ≡ sum_by point_count (take l.level-index l.levels);
  faces : l.faces ≡ sum_by face_count (take l.level-index l.levels);
  corners : l.corners ≡ sum_by corner_count (take l.level-index l.levels);
  points_fit : l.points ≤ 2 ^ 32 * l.level-index;
  faces_fit : l.faces ≤ 2 ^ 32 * l.level-index;
  corners_fit : l.corners ≤ 2 ^ 32 * l.level-index;
}
