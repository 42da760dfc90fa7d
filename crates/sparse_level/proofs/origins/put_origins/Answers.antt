use Rattle.std.proofs.Common.{◌∙◌, ap, map, length, get_or, ℕ}
use Rattle.std.proofs.lemmas.List.{map_push}
use Rattle.level_topology.specs.ChildTables.{origin_of, numbered_origin}
use Rattle.sparse_level.proofs.ListLemmas.{made-more, made-all}
use Rattle.sparse_level.proofs.origins.put_origins.Goals as goal

pub loop-n-preserved : goal.loop-n-preserved
loop-n-preserved c =
    let level = c.args.level.now.level in
    made-more (numbered_origin level.point_count (length level.polygons)) c.args.points.now (map origin_of c.loop-n.origins.items) (map origin_of c.push.new.self.items) c.loop-n.n-index 0 (origin_of c.origin_at.result) c.loop-n-test.true c.loop-n.invariant
    (ap (map origin_of) c.in_ok-push.ensures.items ∙ map_push origin_of c.loop-n.origins.items c.origin_at.result)
    (c.origin_at.ensures ∙ ap (λ (k : ℕ). numbered_origin k c.faces-faces.result (get_or c.args.points.now c.loop-n.n-index 0)) c.points-vertices.ensures ∙ ap (λ (k : ℕ). numbered_origin level.point_count k (get_or c.args.points.now c.loop-n.n-index 0)) c.faces-faces.ensures)

pub returns : goal.returns
returns c =
    let level = c.args.level.now.level in
    made-all (numbered_origin level.point_count (length level.polygons)) c.args.points.now (map origin_of c.loop-n.origins.items) c.loop-n.n-index c.loop-n-test.false c.loop-n.invariant
