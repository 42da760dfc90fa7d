use Rattle.std.proofs.Common.{◌≡◌, length, take, drop}
use Rattle.mesh_arrays.specs.Flat.{marks_of}
use Rattle.mesh_arrays.proofs.level_faces.put_holes.Given as goal

-- the marks of the faces so far
abbrev pub invariant-loop-f : goal.invariant-loop-f
invariant-loop-f l = record {
  written : take l.f l.out ≡ marks_of (take l.f l.level.level.holes);
  rest : drop (length l.level.level.polygons) l.out ≡ drop (length l.level.level.polygons) l.fn.out;
  len : length l.out ≡ length l.fn.out;
}
