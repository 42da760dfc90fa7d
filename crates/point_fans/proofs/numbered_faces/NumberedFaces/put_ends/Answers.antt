use Rattle.level_topology.specs.Topology.{end_of}
use Rattle.level_topology.proofs.ListPlaceLemmas.{mapped-more}
use Rattle.point_fans.proofs.numbered_faces.NumberedFaces.put_ends.Goals as goal

pub loop-i-preserved : goal.loop-i-preserved
loop-i-preserved c = mapped-more (end_of c.args.self.now.level.polygons c.args.v) c.args.edges.now c.loop-i.ends.items c.push.new.self.items c.loop-i.i c.end_at.result c.loop-i-test.true c.loop-i.invariant c.in_ok-push.ensures.items c.end_at.ensures
