use Rattle.std.proofs.Common.{◌≡◌, ◌+◌, ◌≤◌, length, map, take}
use Rattle.std.specs.Vec.{vec_capacity}
use Rattle.level_topology.specs.ChildTables.{origin_of, point_number, IsInverse}
use Rattle.level_topology.proofs.child_tables.number_points.Given as goal

-- the first points have their numbers, and these their places
abbrev pub invariant-loop-p : goal.invariant-loop-p
invariant-loop-p l = record {
  numbers : l.numbers.items ≡ take l.p (map (point_number l.vertices l.faces) (map origin_of l.origins));
  inverse : IsInverse (take l.p (map (point_number l.vertices l.faces) (map origin_of l.origins))) l.points.items;
  count : length l.points.items ≡ l.vertices + l.faces + l.edges;
  room : length l.origins ≤ vec_capacity l.numbers;
}
