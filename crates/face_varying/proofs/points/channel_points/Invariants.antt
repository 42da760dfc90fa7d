use Rattle.std.proofs.Common.{◌≡◌, ◌++◌, length, map, drop}
use Rattle.std.specs.List.{sum_by}
use Rattle.raw_mesh.specs.View.{texture_of}
use Rattle.face_varying.specs.FirstOnes.{first_ones}
use Rattle.face_varying.specs.TextureValues.{value_at}
use Rattle.face_varying.proofs.FirstOneStepLemmas.{joined_lists}
use Rattle.face_varying.proofs.points.channel_points.Given as goal

-- the points so far, and those of the other faces, are all; the numbers of the other faces are left
abbrev pub invariant-loop-f : goal.invariant-loop-f
invariant-loop-f l = record {
  vertices : l.points.vertices.items ++ first_ones (length l.points.vertices.items) l.rest (joined_lists (drop l.f l.raw.faces)) ≡ first_ones 0 l.numbers (joined_lists l.raw.faces);
  values : map texture_of l.points.values.items ++ first_ones (length l.points.vertices.items) l.rest (map (value_at l.raw.texture) (joined_lists (drop l.f l.raw.texture_corners))) ≡ first_ones 0 l.numbers (map (value_at l.raw.texture) (joined_lists l.raw.texture_corners));
  left : length l.rest ≡ sum_by length (drop l.f l.raw.faces);
}
