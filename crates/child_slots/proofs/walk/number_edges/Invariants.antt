use Rattle.std.proofs.Common.{map}
use Rattle.level_topology.specs.ChildTables.{place_of}
use Rattle.child_slots.specs.Parts.{part}
use Rattle.child_slots.specs.Walked.{IsWalked}
use Rattle.child_slots.proofs.walk.number_edges.Given as goal

-- the child faces of the places so far are gone over
abbrev pub invariant-loop-i : goal.invariant-loop-i
invariant-loop-i g l = IsWalked l.level.level.point_count l.level.level.polygons (part (map place_of l.places) (g.P.ChildPoints.has l.points) (g.P.ChildPoints.number l.points)) l.i l.edges
