use Rattle.std.proofs.Common.{◌<◌, ◌≤◌, [], length, get_or, subst, ap, sym, ◌∙◌}
use Rattle.std.specs.List.{list_any}
use Rattle.std.proofs.lemmas.List.{take_all}
use Rattle.std.proofs.lemmas.List.Folds.{list_any_at}
use Rattle.subdiv_model.specs.Edges.{is_boundary}
use Rattle.level_topology.specs.Topology.{edge_at}
use Rattle.level_topology.proofs.LawLemmas.{edges-each}
use Rattle.level_walk.proofs.PointLemmas.{boundary-listed}
use Rattle.level_walk.proofs.points.is_at_boundary.Goals as goal

pub is_boundary-requires : goal.is_boundary-requires
is_boundary-requires c =
    let edges = c.vertex_edges-e-items.ensures in
    let inside : c.loop-e.e-index < length (get_or c.args.level.now.edges_at c.args.v []) = subst (λ xs. c.loop-e.e-index < length xs) edges c.loop-e-test.true in
    rw edges (edges-each c.args.level.now c.args.v c.loop-e.e-index c.facts.ensures c.requires inside).exists

pub returns-then-is_boundary : goal.returns-then-is_boundary
returns-then-is_boundary c =
    let polygons = c.args.level.now.level.polygons in
    let edges = c.vertex_edges-e-items.ensures in
    let inside : c.loop-e.e-index < length (get_or c.args.level.now.edges_at c.args.v []) = subst (λ xs. c.loop-e.e-index < length xs) edges c.loop-e-test.true in
    let here = ap (λ xs. is_boundary polygons (edge_at polygons (get_or xs c.loop-e.e-index 0))) (sym edges) ∙ sym c.is_boundary.ensures ∙ c.if-is_boundary.true in
    sym (sym (boundary-listed c.args.level.now c.args.v c.facts.ensures c.requires) ∙ list_any_at (λ e. is_boundary polygons (edge_at polygons e)) (get_or c.args.level.now.edges_at c.args.v []) c.loop-e.e-index 0 inside here)

pub returns : goal.returns
returns c =
    let polygons = c.args.level.now.level.polygons in
    let past : length (get_or c.args.level.now.edges_at c.args.v []) ≤ c.loop-e.e-index = subst (λ xs. length xs ≤ c.loop-e.e-index) c.vertex_edges-e-items.ensures c.loop-e-test.false in
    let all = take_all c.loop-e.e-index (get_or c.args.level.now.edges_at c.args.v []) past in
    sym (sym (boundary-listed c.args.level.now c.args.v c.facts.ensures c.requires) ∙ ap (list_any (λ e. is_boundary polygons (edge_at polygons e))) (sym all) ∙ c.loop-e.invariant)
