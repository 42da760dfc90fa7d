use Rattle.std.proofs.Common.{◌≡◌, length, take}
use Rattle.std.specs.List.{flat_map, sum_by}
use Rattle.mesh_arrays.proofs.sparse_corners.fill_corners.Given as goal

-- the corners of the faces so far
abbrev pub invariant-loop-f : goal.invariant-loop-f
invariant-loop-f l = record {
  at : l.at ≡ sum_by (λ face. length face.corners) (take l.f l.level.faces);
  written : take l.at l.out ≡ flat_map (λ face. face.corners) (take l.f l.level.faces);
  len : length l.out ≡ length l.fn.out;
}
