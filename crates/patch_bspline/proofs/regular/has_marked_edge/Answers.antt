use Rattle.std.proofs.Common.{sym, ◌∙◌}
use Rattle.level_topology.proofs.FactLemmas.{edge-listed, some-listed, none-listed}
use Rattle.patch_bspline.specs.Around.{is_marked}
use Rattle.patch_bspline.proofs.regular.has_marked_edge.Goals as goal

pub is_marked-requires : goal.is_marked-requires
is_marked-requires c = edge-listed c.args.level.now c.facts.ensures c.args.v c.requires _ c.vertex_edges-e-items.ensures c.loop-e.e-index c.loop-e-test.true

pub returns-then-is_marked : goal.returns-then-is_marked
returns-then-is_marked c =
    sym (some-listed c.args.level.now c.facts.ensures c.args.v c.requires _ c.vertex_edges-e-items.ensures c.loop-e.e-index (is_marked c.args.level.now.level)
    c.loop-e-test.true (sym c.is_marked.ensures ∙ c.if-is_marked.true))

pub returns : goal.returns
returns c =
    sym (none-listed c.args.level.now c.facts.ensures c.args.v c.requires _ c.vertex_edges-e-items.ensures c.loop-e.e-index (is_marked c.args.level.now.level)
    c.loop-e-test.false c.loop-e.invariant)
