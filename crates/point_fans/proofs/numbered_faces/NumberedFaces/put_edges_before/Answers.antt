use Rattle.level_topology.specs.Topology.{edge_before}
use Rattle.level_topology.proofs.ListPlaceLemmas.{mapped-more}
use Rattle.point_fans.proofs.numbered_faces.NumberedFaces.put_edges_before.Goals as goal

pub loop-i-preserved : goal.loop-i-preserved
loop-i-preserved c = mapped-more (edge_before c.args.self.now.level.polygons c.args.v) c.args.faces.now c.loop-i.edges.items c.push.new.self.items c.loop-i.i c.edge_before.result c.loop-i-test.true c.loop-i.invariant c.in_ok-push.ensures.items c.edge_before.ensures
