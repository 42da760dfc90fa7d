use Rattle.std.proofs.Common.{◌≡◌, ◌<◌, ℕ, true, List, length, take, get_or}
use Rattle.subdiv_model.specs.Polygons.{has_corner, polygon_at}
use Rattle.level_topology.specs.PointRows.{IsFanFrom}
use Rattle.point_fans.proofs.numbered_faces.NumberedFaces.walk.Given as goal

-- the point is a corner of the face, and each fan from the first face on was followed so far
abbrev pub invariant-loop-i : goal.invariant-loop-i
invariant-loop-i l = record {
  there : has_corner l.v (polygon_at l.self.level.polygons l.f) ≡ true;
  follows : (fan : List ℕ) → IsFanFrom l.self.level.polygons l.v l.start fan → length fan ≡ l.count → l.faces.items ≡ take l.i fan;
  next : (fan : List ℕ) → IsFanFrom l.self.level.polygons l.v l.start fan → length fan ≡ l.count → l.i < l.count → l.f ≡ get_or fan l.i 0;
}
