use Rattle.std.proofs.Common.{◌≡◌, length, take}
use Rattle.std.specs.List.{sum_by}
use Rattle.mesh_arrays.specs.SparseFlat.{corner_count, corners_of, with_front}
use Rattle.mesh_arrays.proofs.sparse_corners.put_corners.Given as goal

-- the corners of the levels so far
abbrev pub invariant-loop-level : goal.invariant-loop-level
invariant-loop-level l = record {
  at : l.at ≡ sum_by corner_count (take l.level-index l.levels);
  corners : l.out ≡ with_front (corners_of (take l.level-index l.levels)) l.fn.out;
  len : length l.out ≡ length l.fn.out;
}
