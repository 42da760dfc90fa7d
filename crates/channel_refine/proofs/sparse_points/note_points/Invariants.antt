use Rattle.std.proofs.Common.{◌≡◌, length, take}
use Rattle.sparse_level.specs.Places.{with_points}
use Rattle.channel_refine.specs.SparseMarks.{AreMarked}
use Rattle.channel_refine.proofs.sparse_points.note_points.Given as goal

-- the points so far are in the list
abbrev pub invariant-loop-n : goal.invariant-loop-n
invariant-loop-n l = record {
  points : l.points.items ≡ with_points l.fn.points.items (take l.n-index l.corners);
  marks : AreMarked l.points.items l.is_listed.items;
  size : length l.is_listed.items ≡ length l.fn.is_listed.items;
}
