use Rattle.std.proofs.Common.{◌≡◌, length, take}
use Rattle.std.specs.List.{sum_by}
use Rattle.mesh_arrays.specs.SparseFlat.{face_count, kinds_of, numbers_of, sizes_of, with_front}
use Rattle.mesh_arrays.proofs.sparse_faces.put_faces.Given as goal

-- the faces of the levels so far
abbrev pub invariant-loop-level : goal.invariant-loop-level
invariant-loop-level l = record {
  at : l.at ≡ sum_by face_count (take l.level-index l.levels);
  kinds : l.kinds ≡ with_front (kinds_of (take l.level-index l.levels)) l.fn.kinds;
  numbers : l.numbers ≡ with_front (numbers_of (take l.level-index l.levels)) l.fn.numbers;
  sizes : l.sizes ≡ with_front (sizes_of (take l.level-index l.levels)) l.fn.sizes;
  kinds_len : length l.kinds ≡ length l.fn.kinds;
  numbers_len : length l.numbers ≡ length l.fn.numbers;
  sizes_len : length l.sizes ≡ length l.fn.sizes;
}
