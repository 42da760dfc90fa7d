use Rattle.std.proofs.Common.{sym, ◌∙◌}
use Rattle.subdiv_model.specs.Edges.{is_boundary}
use Rattle.level_topology.proofs.FactLemmas.{edge-listed, some-listed, none-listed}
use Rattle.level_topology.proofs.level.Level.is_at_boundary.Goals as goal

pub is_boundary-requires : goal.is_boundary-requires
is_boundary-requires c = edge-listed c.args.self.now c.facts.ensures c.args.v c.requires _ c.vertex_edges-e-items.ensures c.loop-e.e-index c.loop-e-test.true

pub returns-then-is_boundary : goal.returns-then-is_boundary
returns-then-is_boundary c =
    sym (some-listed c.args.self.now c.facts.ensures c.args.v c.requires _ c.vertex_edges-e-items.ensures c.loop-e.e-index (is_boundary c.args.self.now.level.polygons)
    c.loop-e-test.true (sym c.is_boundary.ensures ∙ c.if-is_boundary.true))

pub returns : goal.returns
returns c =
    sym (none-listed c.args.self.now c.facts.ensures c.args.v c.requires _ c.vertex_edges-e-items.ensures c.loop-e.e-index (is_boundary c.args.self.now.level.polygons)
    c.loop-e-test.false c.loop-e.invariant)
