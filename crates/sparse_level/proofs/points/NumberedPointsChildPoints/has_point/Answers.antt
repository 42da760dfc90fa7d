use Rattle.std.proofs.Common.{◌<◌, ◌∙◌, sym, ap, arith, length}
use Rattle.std.proofs.lemmas.Bool.{false_from_ne_true, le-ltb}
use Rattle.subdiv_model.specs.Polygons.{is_among}
use Rattle.sparse_level.proofs.PointLemmas.{point-found, point-below}
use Rattle.sparse_level.proofs.points.NumberedPointsChildPoints.has_point.Goals as goal

pub returns-then-n-len : goal.returns-then-n-len
returns-then-n-len c =
    let inside = c.self.inside in
    let below : c.args.n < length inside.table.items = omega (arith, c.if-n-len.true, c.len.ensures, inside.table.ok.0) in
    c.is_there.ensures
    ∙ point-found inside.points.items inside.table.items c.args.n c.index.result.now c.self.invariant below c.index.ensures
    ∙ ap (λ ns. is_among ns c.args.n) c.self.view_is

pub returns-else-n-len : goal.returns-else-n-len
returns-else-n-len c =
    let inside = c.self.inside in
    le-ltb _ _ c.if-n-len.false
    ∙ sym (false_from_ne_true _ (λ h. absurd (omega (arith, point-below inside.points.items inside.table.items c.args.n c.self.invariant h, c.if-n-len.false, c.len.ensures, inside.table.ok.0))))
    ∙ ap (λ ns. is_among ns c.args.n) c.self.view_is
