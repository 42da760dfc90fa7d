use Rattle.std.proofs.Common.{◌≡◌, length, map, take, drop}
use Rattle.mesh_arrays.proofs.level_faces.put_face_sizes.Given as goal

-- the sizes of the faces so far
abbrev pub invariant-loop-f : goal.invariant-loop-f
invariant-loop-f l = record {
  written : take l.f l.out ≡ map length (take l.f l.level.level.polygons);
  rest : drop (length l.level.level.polygons) l.out ≡ drop (length l.level.level.polygons) l.fn.out;
  len : length l.out ≡ length l.fn.out;
}
