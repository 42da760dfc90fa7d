use Rattle.std.proofs.Common.{◌≡◌, length, map, take}
use Rattle.mesh_arrays.specs.SparseFlat.{kind_number}
use Rattle.mesh_arrays.proofs.sparse_faces.fill_faces.Given as goal

-- the kinds, numbers and sizes of the faces so far
abbrev pub invariant-loop-f : goal.invariant-loop-f
invariant-loop-f l = record {
  kinds : take l.f l.kinds ≡ map (λ face. kind_number face.kind) (take l.f l.level.faces);
  numbers : take l.f l.numbers ≡ map (λ face. face.number) (take l.f l.level.faces);
  sizes : take l.f l.sizes ≡ map (λ face. length face.corners) (take l.f l.level.faces);
  kinds_len : length l.kinds ≡ length l.fn.kinds;
  numbers_len : length l.numbers ≡ length l.fn.numbers;
  sizes_len : length l.sizes ≡ length l.fn.sizes;
}
