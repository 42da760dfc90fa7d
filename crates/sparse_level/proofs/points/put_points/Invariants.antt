use Rattle.std.proofs.Common.{◌≡◌, map, length, take}
use Rattle.level_topology.specs.ChildTables.{place_of}
use Rattle.sparse_level.specs.Places.{points_at, ArePointsIn}
use Rattle.sparse_level.proofs.points.put_points.Given as goal

-- the corners of the child faces so far are there
abbrev pub invariant-loop-i : goal.invariant-loop-i
invariant-loop-i l = record {
  points : l.points.items ≡ points_at l.level.level (take l.i (map place_of l.places));
  is : ArePointsIn l.points.items l.table.items;
  count : length l.table.items ≡ length l.fn.table.items;
}
