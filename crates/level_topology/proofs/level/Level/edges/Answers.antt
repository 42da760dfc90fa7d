use Rattle.std.proofs.Common.{arith, ap, length}
use Rattle.level_topology.proofs.ChildLemmas.{edges-corners}
use Rattle.level_topology.proofs.level.Level.edges.Goals as goal

pub overflow_cast-result : goal.overflow_cast-result
overflow_cast-result c =
    let invariant = c.self.invariant in
    record { fits = omega (arith, c.len.ensures, ap length invariant.edge_vertices, edges-corners c.self.inside.tables.faces.lists, invariant.topology.small.corners) }
