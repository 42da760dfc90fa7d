use Rattle.std.proofs.Common.{◌∙◌, ap, arith, length}
use Rattle.level_topology.proofs.ValenceLemmas.{edges-counted, edges-at-most}
use Rattle.level_topology.proofs.level.Level.valence.Goals as goal

pub overflow_cast-result : goal.overflow_cast-result
overflow_cast-result c =
    omega (arith, ap length c.vertex_edges.ensures, edges-at-most c.args.self.now c.args.v c.facts.ensures c.requires, c.edges-most.ensures, c.edges-most.type_inv)

pub returns-clause-valence : goal.returns-clause-valence
returns-clause-valence c = ap length c.vertex_edges.ensures ∙ edges-counted c.args.self.now c.args.v c.facts.ensures c.requires
