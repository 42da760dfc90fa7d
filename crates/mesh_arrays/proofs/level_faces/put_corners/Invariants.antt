use Rattle.std.proofs.Common.{◌≡◌, length, take, drop}
use Rattle.std.specs.List.{sum_by}
use Rattle.mesh_arrays.specs.Flat.{corners_of}
use Rattle.mesh_arrays.proofs.level_faces.put_corners.Given as goal

-- the corners of the faces so far
abbrev pub invariant-loop-f : goal.invariant-loop-f
invariant-loop-f l = record {
  at : l.at ≡ sum_by length (take l.f l.level.level.polygons);
  written : take l.at l.out ≡ corners_of (take l.f l.level.level.polygons);
  rest : drop (sum_by length l.level.level.polygons) l.out ≡ drop (sum_by length l.level.level.polygons) l.fn.out;
  len : length l.out ≡ length l.fn.out;
}
