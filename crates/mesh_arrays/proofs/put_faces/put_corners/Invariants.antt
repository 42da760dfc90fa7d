use Rattle.std.proofs.Common.{◌≡◌, length, take, drop}
use Rattle.std.specs.List.{flat_map, sum_by}
use Rattle.mesh_arrays.proofs.put_faces.put_corners.Given as goal

-- the corners of the faces so far
abbrev pub invariant-loop-f : goal.invariant-loop-f
invariant-loop-f l = record {
  at : l.at ≡ sum_by length (take l.f l.mesh.faces);
  written : take l.at l.out ≡ flat_map (λ face. face) (take l.f l.mesh.faces);
  rest : drop (sum_by length l.mesh.faces) l.out ≡ drop (sum_by length l.mesh.faces) l.fn.out;
  len : length l.out ≡ length l.fn.out;
}
