use Rattle.std.proofs.Common.{sym, ◌∙◌}
use Rattle.subdiv_model.specs.Feature.{is_sharp_inside}
use Rattle.level_topology.proofs.FactLemmas.{edge-listed, some-listed, none-listed}
use Rattle.level_topology.proofs.level.Level.is_at_crease.Goals as goal

pub is_sharp_inside-requires : goal.is_sharp_inside-requires
is_sharp_inside-requires c = edge-listed c.args.self.now c.facts.ensures c.args.v c.requires _ c.vertex_edges-e-items.ensures c.loop-e.e-index c.loop-e-test.true

pub returns-then-is_sharp_inside : goal.returns-then-is_sharp_inside
returns-then-is_sharp_inside c =
    sym (some-listed c.args.self.now c.facts.ensures c.args.v c.requires _ c.vertex_edges-e-items.ensures c.loop-e.e-index (is_sharp_inside c.args.self.now.level)
    c.loop-e-test.true (sym c.is_sharp_inside.ensures ∙ c.if-is_sharp_inside.true))

pub returns : goal.returns
returns c =
    sym (none-listed c.args.self.now c.facts.ensures c.args.v c.requires _ c.vertex_edges-e-items.ensures c.loop-e.e-index (is_sharp_inside c.args.self.now.level)
    c.loop-e-test.false c.loop-e.invariant)
