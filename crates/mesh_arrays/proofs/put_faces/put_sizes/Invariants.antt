use Rattle.std.proofs.Common.{◌≡◌, length, map, take, drop}
use Rattle.mesh_arrays.proofs.put_faces.put_sizes.Given as goal

-- the sizes of the faces so far
abbrev pub invariant-loop-f : goal.invariant-loop-f
invariant-loop-f l = record {
  written : take l.f l.out ≡ map length (take l.f l.mesh.faces);
  rest : drop (length l.mesh.faces) l.out ≡ drop (length l.mesh.faces) l.fn.out;
  len : length l.out ≡ length l.fn.out;
}
