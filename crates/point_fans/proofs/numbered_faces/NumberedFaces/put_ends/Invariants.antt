use Rattle.std.proofs.Common.{◌≡◌, take, map}
use Rattle.level_topology.specs.Topology.{end_of}
use Rattle.point_fans.proofs.numbered_faces.NumberedFaces.put_ends.Given as goal

-- those so far are put
abbrev pub invariant-loop-i : goal.invariant-loop-i
invariant-loop-i l = l.ends.items ≡ map (end_of l.self.level.polygons l.v) (take l.i l.edges)
