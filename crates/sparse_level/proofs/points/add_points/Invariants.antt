use Rattle.std.proofs.Common.{◌≡◌, ◌+◌, ◌≤◌, length, take}
use Rattle.sparse_level.specs.Places.{with_points, ArePointsIn}
use Rattle.sparse_level.proofs.points.add_points.Given as goal

-- the points so far have numbers
abbrev pub invariant-loop-n : goal.invariant-loop-n
invariant-loop-n l = record {
  points : l.points.items ≡ with_points l.fn.points.items (take l.n-index l.corners);
  is : ArePointsIn l.points.items l.table.items;
  count : length l.table.items ≡ length l.fn.table.items;
  few : length l.points.items ≤ length l.fn.points.items + l.n-index;
}
