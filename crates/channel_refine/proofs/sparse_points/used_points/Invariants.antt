use Rattle.std.proofs.Common.{◌≡◌, length, nat_eq, take}
use Rattle.subdiv_model.specs.Lists.{each_once_by}
use Rattle.subdiv_model.specs.Sparse.{corners_of}
use Rattle.channel_refine.specs.SparseMarks.{AreMarked}
use Rattle.channel_refine.proofs.sparse_points.used_points.Given as goal

-- the corners of the faces so far
abbrev pub invariant-loop-f : goal.invariant-loop-f
invariant-loop-f l = record {
  points : l.points.items ≡ each_once_by nat_eq (corners_of (take l.f l.level.level.polygons));
  marks : AreMarked l.points.items l.is_listed.items;
  size : length l.is_listed.items ≡ l.level.level.point_count;
}
