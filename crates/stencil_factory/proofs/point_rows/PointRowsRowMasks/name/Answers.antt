use Rattle.std.proofs.Common.{ap, ◌∙◌}
use Rattle.std.proofs.lemmas.Result.{on_ok_weaker}
use Rattle.stencil_factory.specs.PlaceSet.{Places}
use Rattle.stencil_factory.specs.MaskRows.{mask_at}
use Rattle.stencil_factory.proofs.PutLemmas.{put-inside, put-named}
use Rattle.stencil_factory.proofs.point_rows.PointRowsRowMasks.name.Goals as goal

pub name_weights-requires : goal.name_weights-requires
name_weights-requires g c =
    put-inside (g.M.PointMasks.level c.args.self.now.masks.now) (mask_at (g.M.PointMasks.masks c.args.self.now.masks.now) c.args.row) _ c.in_ok-put.ensures
    c.weights.result.now c.weights.ensures.terms c.start.new.self.count (ap (λ (m : Places). m.count) c.start.ensures ∙ c.requires.count)

pub returns-clause-named : goal.returns-clause-named
returns-clause-named g c =
    on_ok_weaker c.name_weights.result
    (put-named (g.M.PointMasks.level c.args.self.now.masks.now) (mask_at (g.M.PointMasks.masks c.args.self.now.masks.now) c.args.row) _ c.in_ok-put.ensures
    c.weights.result.now c.weights.ensures.terms c.args.members.now c.start.new.self c.name_weights.new.members c.requires.count c.start.ensures)
    c.name_weights.ensures
