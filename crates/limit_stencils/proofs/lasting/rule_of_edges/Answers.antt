use Rattle.std.proofs.Common.{◌<◌, length, get_or, [], arith, ap}
use Rattle.level_topology.proofs.LawLemmas.{edges-each}
use Rattle.limit_stencils.proofs.LastingLemmas.{edge-step}
use Rattle.limit_stencils.proofs.lasting.rule_of_edges.Goals as goal

pub with_edge-rule-requires : goal.with_edge-rule-requires
with_edge-rule-requires c =
    let inside : c.loop-e.e-index < length (get_or c.args.level.now.edges_at c.args.v []) = omega (arith, ap length c.vertex_edges-e-items.ensures, c.loop-e-test.true) in
    rw c.vertex_edges-e-items.ensures
    (edges-each c.args.level.now c.args.v c.loop-e.e-index c.facts.ensures c.requires inside).exists

pub loop-e-preserved : goal.loop-e-preserved
loop-e-preserved c =
    edge-step c.args.level.now.level c.args.v c.vertex_edges-e-items.result.now c.loop-e.e-index c.loop-e.rule c.with_edge-rule.result c.loop-e-test.true c.loop-e.invariant
    c.with_edge-rule.ensures
