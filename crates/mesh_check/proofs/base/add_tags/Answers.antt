use Rattle.std.proofs.Common.{ap, sym, subst, ◌∙◌, ◌≡◌, length, nat_lt, true}
use Rattle.std.specs.List.{list_all, list_any}
use Rattle.subdiv_model.specs.Polygons.{same_edge}
use Rattle.subdiv_model.specs.Edges.{edges_of}
use Rattle.raw_mesh.specs.declared.tags.CornerTag.{CornerTag}
use Rattle.point_fans.specs.Built.{Built}
use Rattle.mesh_check.proofs.BaseEdgeLemmas.{boundary-edges}
use Rattle.mesh_check.proofs.BaseLemmas.{after-creases, after-boundary, after-tags, after-corners, tags-inside}
use Rattle.mesh_check.proofs.base.add_tags.Goals as goal

pub add_boundary-requires : goal.add_boundary-requires
add_boundary-requires c =
    let mesh = c.args.raw.now in
    let creased = after-creases mesh c.args.builder.now.level.holes _ _ _ c.requires.smooth c.creases.ensures c.add_creases.ensures in
    subst (λ (b : Built). list_all (λ s. list_any (same_edge s) (edges_of b.level.polygons)) c.args.boundary.now ≡ true) (sym creased)
    (ap (list_all (λ s. list_any (same_edge s) (edges_of mesh.faces))) c.requires.boundary ∙ boundary-edges mesh.faces)

pub add_corner_tags-requires : goal.add_corner_tags-requires
add_corner_tags-requires c =
    let mesh = c.args.raw.now in
    let holes = c.args.builder.now.level.holes in
    let creased = after-creases mesh holes _ _ _ c.requires.smooth c.creases.ensures c.add_creases.ensures in
    let bounded = after-boundary mesh holes _ _ _ creased c.requires.boundary c.add_boundary.ensures in
    subst (λ (b : Built). list_all (λ (tag : CornerTag). nat_lt tag.vertex b.level.point_count) c.corner_tags.result.now ≡ true) (sym bounded)
    (tags-inside c.corner_tags.result.now (length mesh.points) mesh.corner_tags c.corner_tags.ensures c.requires.fit.within.corner_tags)

pub add_end_corners-requires-clause-points : goal.add_end_corners-requires-clause-points
add_end_corners-requires-clause-points c =
    let mesh = c.args.raw.now in
    let holes = c.args.builder.now.level.holes in
    let creased = after-creases mesh holes _ _ _ c.requires.smooth c.creases.ensures c.add_creases.ensures in
    let bounded = after-boundary mesh holes _ _ _ creased c.requires.boundary c.add_boundary.ensures in
    ap (λ (b : Built). b.level.point_count) (after-tags mesh holes _ _ _ bounded c.corner_tags.ensures c.add_corner_tags.ensures)

pub returns : goal.returns
returns c =
    let mesh = c.args.raw.now in
    let holes = c.args.builder.now.level.holes in
    let creased = after-creases mesh holes _ _ _ c.requires.smooth c.creases.ensures c.add_creases.ensures in
    let bounded = after-boundary mesh holes _ _ _ creased c.requires.boundary c.add_boundary.ensures in
    let tagged = after-tags mesh holes _ _ _ bounded c.corner_tags.ensures c.add_corner_tags.ensures in
    after-corners mesh holes _ _ tagged c.in_ok-add_end_corners.ensures
