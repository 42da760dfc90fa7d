use Rattle.std.proofs.Common.{ap, ◌∙◌, ◌/◌}
use Rattle.stencil_factory.specs.MaskRows.{mask_at}
use Rattle.stencil_factory.proofs.PutLemmas.{put-inside, put-can, put-weighed}
use Rattle.stencil_factory.proofs.point_rows.PointRowsRowMasks.weigh.Goals as goal

pub add_weights-requires-clause-known : goal.add_weights-requires-clause-known
add_weights-requires-clause-known g c =
    put-inside (g.M.PointMasks.level c.args.self.now.masks.now) (mask_at (g.M.PointMasks.masks c.args.self.now.masks.now) c.args.row) _ c.in_ok-put.ensures
    c.weights.result.now c.weights.ensures.terms _ c.requires.dens.count

pub add_weights-requires-clause-can : goal.add_weights-requires-clause-can
add_weights-requires-clause-can g c =
    put-can (g.M.PointMasks.level c.args.self.now.masks.now) (mask_at (g.M.PointMasks.masks c.args.self.now.masks.now) c.args.row) _ c.in_ok-put.ensures
    c.weights.result.now c.weights.ensures.terms c.args.dens.now c.requires.dens c.args.den c.requires.den c.requires.short c.quotient-multiple.result
    (c.quotient-multiple.ensures ∙ ap (λ q. c.args.den / q) c.denominator.ensures) c.args.sums.now c.requires.zeros g.T.Natural.most c.requires.fits

pub returns-clause-weighed : goal.returns-clause-weighed
returns-clause-weighed g c =
    put-weighed (g.M.PointMasks.level c.args.self.now.masks.now) (mask_at (g.M.PointMasks.masks c.args.self.now.masks.now) c.args.row) _ c.in_ok-put.ensures
    c.weights.result.now c.weights.ensures.terms c.args.dens.now c.requires.dens c.args.den c.requires.den c.requires.short c.quotient-multiple.result
    (c.quotient-multiple.ensures ∙ ap (λ q. c.args.den / q) c.denominator.ensures) c.args.sums.now c.requires.zeros c.add_weights.new.sums c.add_weights.ensures
