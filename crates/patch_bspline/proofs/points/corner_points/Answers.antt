use Rattle.std.proofs.Common.{◌+◌, ◌%◌, get_or, refl, subst, ap}
use Rattle.subdiv_model.specs.Polygons.{polygon_at}
use Rattle.patch_bspline.specs.declared.points.CornerPoints.{CornerPoints}
use Rattle.patch_bspline.specs.Around.{AreAround}
use Rattle.patch_bspline.proofs.CornerLemmas.{around-there, corner-there}
use Rattle.patch_bspline.proofs.points.corner_points.Goals as goal

pub returns : goal.returns
returns c =
    let t = c.args.level.now in
    let quad = polygon_at t.level.polygons c.args.face in
    let same = ap (λ corners. get_or corners c.args.c 0) c.face_vertices.ensures in
    let v = get_or c.face_vertices.result.now c.args.c 0 in
    let at = corner-there t c.args.face c.args.c v c.facts.ensures c.requires.has c.requires.complete c.requires.corner same in
    let points : CornerPoints = record { corner = v; ahead = c.turned_corner-ahead.result; across = c.turned_corner-across.result; behind = c.turned_corner-behind.result } in
    subst (λ n. AreAround t.level.polygons (get_or quad ((c.args.c + 3) % 4) 0) n (get_or quad ((c.args.c + 1) % 4) 0) points) same
    (around-there t c.args.face c.args.c v points c.facts.ensures at refl c.turned_corner-ahead.ensures c.turned_corner-across.ensures c.turned_corner-behind.ensures)
