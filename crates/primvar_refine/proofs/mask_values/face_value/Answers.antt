use Rattle.std.proofs.Common.{[], ap}
use Rattle.std.proofs.lemmas.List.{length-map}
use Rattle.subdiv_model.specs.Polygons.{polygon_at}
use Rattle.subdiv_model.specs.Mask.{weigh_points}
use Rattle.sharpness_laws.proofs.MaskValueLemmas.{joined-corners}
use Rattle.mask_rules.specs.Masks.{corners_over}
use Rattle.primvar_refine.specs.View.{rows_of, row_of}
use Rattle.primvar_refine.proofs.SeenLemmas.{corners-there, count-corners}
use Rattle.primvar_refine.proofs.MadeLemmas.{given-there, given-can, given-made, given-count}
use Rattle.primvar_refine.proofs.mask_values.face_value.Goals as goal

pub sum_of_corners-requires-clause-there : goal.sum_of_corners-requires-clause-there
sum_of_corners-requires-clause-there g c =
    corners-there c.args.values.now (rows_of g.P.Primvar.numbers c.args.values.now) c.face_vertices-corners.result.now (length-map c.args.values.now (row_of g.P.Primvar.numbers))
    (given-there c.args.start.now.width c.args.parent.now.level (rows_of g.P.Primvar.numbers c.args.values.now) [] []
    (corners_over (polygon_at c.args.parent.now.level.polygons c.args.f) c.face_mask-mask.result.size) _ c.args.den c.face_mask-mask.ensures.mask (joined-corners (polygon_at c.args.parent.now.level.polygons c.args.f)) c.requires.can
    (weigh_points 1 c.face_vertices-corners.result.now) (ap (weigh_points 1) c.face_vertices-corners.ensures) c.size.result c.quotient-multiple.result c.size.ensures c.quotient-multiple.ensures
    (g.P.Primvar.numbers c.args.start.now.zero.now) c.requires.alike)

pub sum_of_corners-requires-clause-can : goal.sum_of_corners-requires-clause-can
sum_of_corners-requires-clause-can g c =
    given-can c.args.start.now.width c.args.parent.now.level (rows_of g.P.Primvar.numbers c.args.values.now) [] []
    (corners_over (polygon_at c.args.parent.now.level.polygons c.args.f) c.face_mask-mask.result.size) _ c.args.den c.face_mask-mask.ensures.mask (joined-corners (polygon_at c.args.parent.now.level.polygons c.args.f)) c.requires.can
    (weigh_points 1 c.face_vertices-corners.result.now) (ap (weigh_points 1) c.face_vertices-corners.ensures) c.size.result c.quotient-multiple.result c.size.ensures c.quotient-multiple.ensures
    (g.P.Primvar.numbers c.args.start.now.zero.now) c.requires.alike

pub returns-clause-made : goal.returns-clause-made
returns-clause-made g c =
    given-made c.args.start.now.width c.args.parent.now.level (rows_of g.P.Primvar.numbers c.args.values.now) [] []
    (corners_over (polygon_at c.args.parent.now.level.polygons c.args.f) c.face_mask-mask.result.size) _ c.args.den c.face_mask-mask.ensures.mask (joined-corners (polygon_at c.args.parent.now.level.polygons c.args.f)) c.requires.can
    (weigh_points 1 c.face_vertices-corners.result.now) (ap (weigh_points 1) c.face_vertices-corners.ensures) c.size.result c.quotient-multiple.result c.size.ensures c.quotient-multiple.ensures
    (g.P.Primvar.numbers c.args.start.now.zero.now) c.requires.alike _ c.sum_of_corners.ensures.sum

pub returns-clause-steps : goal.returns-clause-steps
returns-clause-steps g c =
    count-corners c.face_vertices-corners.result.now _ c.args.steps.now c.sum_of_corners.new.steps
    (given-count c.args.start.now.width c.args.parent.now.level (rows_of g.P.Primvar.numbers c.args.values.now) [] []
    (corners_over (polygon_at c.args.parent.now.level.polygons c.args.f) c.face_mask-mask.result.size) _ c.args.den c.face_mask-mask.ensures.mask (joined-corners (polygon_at c.args.parent.now.level.polygons c.args.f)) c.requires.can
    (weigh_points 1 c.face_vertices-corners.result.now) (ap (weigh_points 1) c.face_vertices-corners.ensures) c.size.result c.quotient-multiple.result c.size.ensures c.quotient-multiple.ensures
    (g.P.Primvar.numbers c.args.start.now.zero.now) c.requires.alike) c.sum_of_corners.ensures.steps
