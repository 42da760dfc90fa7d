use Rattle.std.proofs.Common.{◌≡◌, ◌++◌, length, map, drop}
use Rattle.raw_mesh.specs.View.{texture_of}
use Rattle.face_varying.specs.FirstOnes.{first_ones}
use Rattle.face_varying.specs.TextureValues.{value_at}
use Rattle.face_varying.proofs.points.add_face.Given as goal

-- the points so far, and those of the other corners, are all that are added
abbrev pub invariant-loop-c : goal.invariant-loop-c
invariant-loop-c l = record {
  vertices : l.points.vertices.items ++ first_ones (length l.points.vertices.items) (drop l.c l.numbers) (drop l.c l.vertices) ≡ l.fn.points.vertices.items ++ first_ones (length l.fn.points.vertices.items) l.numbers l.vertices;
  values : map texture_of l.points.values.items ++ first_ones (length l.points.vertices.items) (drop l.c l.numbers) (drop l.c (map (value_at (map texture_of l.texture)) l.corners)) ≡ map texture_of l.fn.points.values.items ++ first_ones (length l.fn.points.vertices.items) l.numbers (map (value_at (map texture_of l.texture)) l.corners);
}
