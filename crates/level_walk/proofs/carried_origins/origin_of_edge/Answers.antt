use Rattle.std.proofs.Common.{sym, ◌∙◌}
use Rattle.std.proofs.lemmas.List.{length-map}
use Rattle.level_topology.specs.ChildTables.{origin_of}
use Rattle.level_walk.specs.OriginsView.{seen_origin}
use Rattle.level_walk.proofs.OriginPartLemmas.{ends-exist, edge-within, point-within}
use Rattle.level_walk.proofs.carried_origins.origin_of_edge.Goals as goal

pub origin-requires : goal.origin-requires
origin-requires c = (ends-exist c.args.child.now c.level.result.now c.facts.ensures c.level.ensures c.args.e c.requires.exists _ c.edge_vertices-first.ensures).0

pub origin-requires-2 : goal.origin-requires-2
origin-requires-2 c = (ends-exist c.args.child.now c.level.result.now c.facts.ensures c.level.ensures c.args.e c.requires.exists _ c.edge_vertices-first.ensures).1

pub origin_of_part-requires : goal.origin_of_part-requires
origin_of_part-requires c =
    let child = c.args.child.now in
    let before = c.args.before.now in
    let points = sym (length-map before.points.items seen_origin) ∙ c.requires.parent.points in
    let edges = sym (length-map before.edges.items seen_origin) ∙ c.requires.parent.edges in
    let ends = ends-exist child c.level.result.now c.facts.ensures c.level.ensures c.args.e c.requires.exists _ c.edge_vertices-first.ensures in
    edge-within _ _ _ (origin_of c.origin.result) (origin_of c.origin-2.result) (origin_of c.joined_part.result)
    (point-within child _ _ _ c.facts.ensures points c.requires.parent.faces edges c.edge_vertices-first.result.0 _ ends.0 c.origin.ensures)
    (point-within child _ _ _ c.facts.ensures points c.requires.parent.faces edges c.edge_vertices-first.result.1 _ ends.1 c.origin-2.ensures)
    c.joined_part.ensures
