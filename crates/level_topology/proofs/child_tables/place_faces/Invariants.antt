use Rattle.std.proofs.Common.{◌≡◌, length, map, take}
use Rattle.level_topology.specs.ChildTables.{place_of, corner_number, IsInverse}
use Rattle.level_topology.proofs.child_tables.place_faces.Given as goal

-- the first faces stand at their corners
abbrev pub invariant-loop-f : goal.invariant-loop-f
invariant-loop-f l = record {
  inverse : IsInverse (take l.f (map (corner_number l.starts) (map place_of l.places))) l.child_faces.items;
  count : length l.child_faces.items ≡ l.corners;
}
