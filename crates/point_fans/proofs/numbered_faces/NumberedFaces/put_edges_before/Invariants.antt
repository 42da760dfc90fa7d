use Rattle.std.proofs.Common.{◌≡◌, take, map}
use Rattle.level_topology.specs.Topology.{edge_before}
use Rattle.point_fans.proofs.numbered_faces.NumberedFaces.put_edges_before.Given as goal

-- those so far are put
abbrev pub invariant-loop-i : goal.invariant-loop-i
invariant-loop-i l = l.edges.items ≡ map (edge_before l.self.level.polygons l.v) (take l.i l.faces)
