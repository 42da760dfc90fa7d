use Rattle.std.proofs.Common.{◌∙◌, arith}
use Rattle.sheet_maker.proofs.SheetLemmas.{draws-made, points-made, corners-fours, corners-few, corners-made, ends-made, sheet-mesh, sheet-made, short-made}
use Rattle.sheet_maker.proofs.sheet.make_sheet.Goals as goal

pub points_of_rows-requires-clause-drawn : goal.points_of_rows-requires-clause-drawn
points_of_rows-requires-clause-drawn c =
    omega (arith, draws-made c.args.seed c.args.size c.deref.result.now (c.deref.ensures.value ∙ c.in_ok-draws.ensures))

pub creases_of_rows-requires-clause-drawn : goal.creases_of_rows-requires-clause-drawn
creases_of_rows-requires-clause-drawn c = draws-made c.args.seed c.args.size c.deref-2.result.now (c.deref-2.ensures.value ∙ c.in_ok-draws.ensures)

pub of_quads-requires-clause-quads : goal.of_quads-requires-clause-quads
of_quads-requires-clause-quads c = corners-fours c.args.size c.in_ok-corners_of_quads.field-0.items c.in_ok-corners_of_quads.ensures

pub of_quads-requires-clause-few : goal.of_quads-requires-clause-few
of_quads-requires-clause-few c = corners-few c.args.size c.in_ok-corners_of_quads.field-0.items c.requires.few c.in_ok-corners_of_quads.ensures

pub of_quads-requires-clause-short : goal.of_quads-requires-clause-short
of_quads-requires-clause-short c =
    short-made c.args.seed c.args.size c.deref.result.now c.in_ok-points_of_rows.field-0.items c.requires.few (c.deref.ensures.value ∙ c.in_ok-draws.ensures)
    c.in_ok-points_of_rows.ensures

pub of_quads-requires-clause-vertices : goal.of_quads-requires-clause-vertices
of_quads-requires-clause-vertices c =
    corners-made c.args.size _ c.in_ok-corners_of_quads.field-0.items (points-made c.args.size c.deref.result.now c.in_ok-points_of_rows.field-0.items c.in_ok-points_of_rows.ensures) c.in_ok-corners_of_quads.ensures

pub of_quads-requires-clause-crease_ends : goal.of_quads-requires-clause-crease_ends
of_quads-requires-clause-crease_ends c =
    ends-made c.args.size _ c.in_ok-creases_of_rows.field-0.items (points-made c.args.size c.deref.result.now c.in_ok-points_of_rows.field-0.items c.in_ok-points_of_rows.ensures) c.in_ok-creases_of_rows.ensures.ends

pub returns : goal.returns
returns c =
    let e = sheet-mesh c.args.seed c.args.size c.deref.result.now c.deref-2.result.now c.in_ok-points_of_rows.field-0.items c.in_ok-corners_of_quads.field-0.items c.in_ok-creases_of_rows.field-0.items (c.deref.ensures.value ∙ c.in_ok-draws.ensures) (c.deref-2.ensures.value ∙ c.in_ok-draws.ensures) c.in_ok-points_of_rows.ensures c.in_ok-corners_of_quads.ensures c.in_ok-creases_of_rows.ensures.creases in
    sheet-made c.of_quads.result _ c.args.seed c.args.size e c.of_quads.ensures
