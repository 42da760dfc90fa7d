use Rattle.std.proofs.Common.{◌≡◌, length, map, take, drop}
use Rattle.mesh_arrays.specs.SparseFlat.{point_count, face_count}
use Rattle.mesh_arrays.proofs.sparse_levels.put_level_counts.Given as goal

-- the counts of the levels so far
abbrev pub invariant-loop-k : goal.invariant-loop-k
invariant-loop-k l = record {
  points : take l.k l.level_points ≡ map point_count (take l.k l.levels);
  faces : take l.k l.level_faces ≡ map face_count (take l.k l.levels);
  points_rest : drop (length l.levels) l.level_points ≡ drop (length l.levels) l.fn.level_points;
  faces_rest : drop (length l.levels) l.level_faces ≡ drop (length l.levels) l.fn.level_faces;
  points_len : length l.level_points ≡ length l.fn.level_points;
  faces_len : length l.level_faces ≡ length l.fn.level_faces;
}
