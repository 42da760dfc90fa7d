use Rattle.std.proofs.Common.{◌+◌, ◌%◌, nat_eq, arith, get_or, ap, length, ◌∙◌}
use Rattle.std.specs.List.{position_or_len}
use Rattle.std.proofs.lemmas.List.{length-map}
use Rattle.subdiv_model.specs.Polygons.{polygon_at}
use Rattle.level_topology.specs.Topology.{corner_of}
use Rattle.mask_rules.specs.Around.{faces_in}
use Rattle.patch_bspline.proofs.CornerLemmas.{corner-there, fan-four, place-within, turned-there}
use Rattle.patch_bspline.proofs.points.turned_corner.Goals as goal

pub turned-i-requires-clause-place : goal.turned-i-requires-clause-place
turned-i-requires-clause-place c =
    let t = c.args.level.now in
    let at = corner-there t c.args.face c.args.c c.args.v c.facts.ensures c.requires.has c.requires.complete c.requires.corner c.requires.is in
    let first = c.place_of.ensures ∙ ap (λ faces. position_or_len (nat_eq c.args.face) faces) c.vertex_faces-faces.ensures in
    omega (arith, first, place-within t c.facts.ensures c.args.v at.inside at.complete at.regular c.args.face at.here)

pub bounds-vertex_faces_at-i : goal.bounds-vertex_faces_at-i
bounds-vertex_faces_at-i c =
    let t = c.args.level.now in
    let at = corner-there t c.args.face c.args.c c.args.v c.facts.ensures c.requires.has c.requires.complete c.requires.corner c.requires.is in
    let count = ap (λ xs. length xs) c.vertex_faces_at.ensures ∙ length-map (faces_in t c.args.v) (corner_of t.level.polygons c.args.v) in
    omega (arith, count, fan-four t c.facts.ensures c.args.v at.inside at.complete at.regular, c.turned-i.ensures)

pub turned-place-requires-clause-place : goal.turned-place-requires-clause-place
turned-place-requires-clause-place c =
    let t = c.args.level.now in
    let at = corner-there t c.args.face c.args.c c.args.v c.facts.ensures c.requires.has c.requires.complete c.requires.corner c.requires.is in
    let found =
    turned-there t c.args.face c.args.c c.args.v c.args.turns c.place_of.result c.turned-i.result c.vertex_faces-faces.result.now c.vertex_faces_at.result.now c.facts.ensures at
    c.vertex_faces-faces.ensures c.vertex_faces_at.ensures c.place_of.ensures c.turned-i.ensures in
    omega (arith, c.from.ensures, found.corner-within)

pub bounds-faces-i : goal.bounds-faces-i
bounds-faces-i c =
    let t = c.args.level.now in
    let at = corner-there t c.args.face c.args.c c.args.v c.facts.ensures c.requires.has c.requires.complete c.requires.corner c.requires.is in
    let count = ap (λ xs. length xs) c.vertex_faces-faces.ensures in
    omega (arith, count, fan-four t c.facts.ensures c.args.v at.inside at.complete at.regular, c.turned-i.ensures)

pub face_vertices-requires : goal.face_vertices-requires
face_vertices-requires c =
    let t = c.args.level.now in
    let at = corner-there t c.args.face c.args.c c.args.v c.facts.ensures c.requires.has c.requires.complete c.requires.corner c.requires.is in
    let found =
    turned-there t c.args.face c.args.c c.args.v c.args.turns c.place_of.result c.turned-i.result c.vertex_faces-faces.result.now c.vertex_faces_at.result.now c.facts.ensures at
    c.vertex_faces-faces.ensures c.vertex_faces_at.ensures c.place_of.ensures c.turned-i.ensures in
    found.exists

pub bounds-face_vertices-place : goal.bounds-face_vertices-place
bounds-face_vertices-place c =
    let t = c.args.level.now in
    let at = corner-there t c.args.face c.args.c c.args.v c.facts.ensures c.requires.has c.requires.complete c.requires.corner c.requires.is in
    let found =
    turned-there t c.args.face c.args.c c.args.v c.args.turns c.place_of.result c.turned-i.result c.vertex_faces-faces.result.now c.vertex_faces_at.result.now c.facts.ensures at
    c.vertex_faces-faces.ensures c.vertex_faces_at.ensures c.place_of.ensures c.turned-i.ensures in
    omega (arith, ap (λ xs. length xs) c.face_vertices.ensures, found.four, c.turned-place.ensures)

pub returns : goal.returns
returns c =
    let t = c.args.level.now in
    let at = corner-there t c.args.face c.args.c c.args.v c.facts.ensures c.requires.has c.requires.complete c.requires.corner c.requires.is in
    let found =
    turned-there t c.args.face c.args.c c.args.v c.args.turns c.place_of.result c.turned-i.result c.vertex_faces-faces.result.now c.vertex_faces_at.result.now c.facts.ensures at
    c.vertex_faces-faces.ensures c.vertex_faces_at.ensures c.place_of.ensures c.turned-i.ensures in
    ap (λ xs. get_or xs c.turned-place.result 0) c.face_vertices.ensures
    ∙ ap (λ n. get_or (polygon_at t.level.polygons (get_or c.vertex_faces-faces.result.now c.turned-i.result 0)) n 0)
    (c.turned-place.ensures ∙ ap (λ n. (n + c.args.turns) % 4) c.from.ensures)
    ∙ found.same
