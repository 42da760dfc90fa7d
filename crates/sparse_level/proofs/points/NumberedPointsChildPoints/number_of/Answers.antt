use Rattle.std.proofs.Common.{◌≡◌, ◌<◌, ◌∙◌, ap, arith, nat_eq, true, length}
use Rattle.std.specs.List.{position_or_len}
use Rattle.subdiv_model.specs.Polygons.{is_among}
use Rattle.sparse_level.proofs.PointLemmas.{point-number, point-below}
use Rattle.sparse_level.proofs.points.NumberedPointsChildPoints.number_of.Goals as goal

pub index-requires : goal.index-requires
index-requires c =
    let inside = c.self.inside in
    let among : is_among inside.points.items c.args.n ≡ true = ap (λ ns. is_among ns c.args.n) c.self.view_is ∙ c.requires in
    omega (arith, point-below inside.points.items inside.table.items c.args.n c.self.invariant among, inside.table.ok.0)

pub returns : goal.returns
returns c =
    let inside = c.self.inside in
    let among : is_among inside.points.items c.args.n ≡ true = ap (λ ns. is_among ns c.args.n) c.self.view_is ∙ c.requires in
    let below : c.args.n < length inside.table.items = point-below inside.points.items inside.table.items c.args.n c.self.invariant among in
    point-number inside.points.items inside.table.items c.args.n c.index.result.now c.self.invariant below c.index.ensures among
    ∙ ap (position_or_len (nat_eq c.args.n)) c.self.view_is
