use Rattle.std.proofs.Common.{◌<◌, ◌∙◌, [], length, ap, sym, subst}
use Rattle.std.proofs.lemmas.List.Elements.{recursion_from_All}
use Rattle.subdiv_model.specs.Polygons.{polygon_at}
use Rattle.subdiv_model.specs.Mask.{weigh_points}
use Rattle.sharpness_laws.proofs.MaskValueLemmas.{joined-corners}
use Rattle.mask_rules.specs.Masks.{corners_over}
use Rattle.child_masks.proofs.FaceLemmas.{face-corners}
use Rattle.place_sums.specs.Sums.{added_shares}
use Rattle.stencil_factory.specs.Flat.{CanAddAll}
use Rattle.stencil_factory.proofs.KnownLemmas.{known-corners, flat-corners, given-can, given-weighed}
use Rattle.stencil_factory.proofs.weigh.weigh_face.Goals as goal

pub add_corners-requires-clause-within : goal.add_corners-requires-clause-within
add_corners-requires-clause-within g c = rw c.face_vertices.ensures (face-corners c.args.parent.now c.facts.ensures c.args.f c.requires.known c.args.dens.now c.requires.dens)

pub add_corners-requires-clause-positive : goal.add_corners-requires-clause-positive
add_corners-requires-clause-positive g c = c.requires.dens.positive

pub add_corners-requires-clause-can : goal.add_corners-requires-clause-can
add_corners-requires-clause-can g c =
    subst (λ l. CanAddAll g.T.Natural.most l c.args.sums.now) (flat-corners c.args.parent.now.level c.args.dens.now [] c.quotient-multiple.result c.face_vertices.result.now)
    (given-can c.args.parent.now.level c.args.dens.now [] c.requires.dens (corners_over (polygon_at c.args.parent.now.level.polygons c.args.f) c.face_mask-mask.result.size) _ c.face_mask-mask.ensures.mask
    (joined-corners (polygon_at c.args.parent.now.level.polygons c.args.f))
    (known-corners c.args.parent.now.level c.args.dens.now [] c.requires.dens (polygon_at c.args.parent.now.level.polygons c.args.f)
    (recursion_from_All (λ v. v < length c.args.dens.now) (polygon_at c.args.parent.now.level.polygons c.args.f)
    (face-corners c.args.parent.now c.facts.ensures c.args.f c.requires.known c.args.dens.now c.requires.dens)))
    c.args.den c.requires.den c.requires.short (weigh_points 1 c.face_vertices.result.now) (ap (weigh_points 1) c.face_vertices.ensures)
    c.size.result c.quotient-multiple.result c.size.ensures c.quotient-multiple.ensures c.args.sums.now c.requires.clear g.T.Natural.most c.requires.fits)

pub returns : goal.returns
returns g c =
    given-weighed c.args.parent.now.level c.args.dens.now [] c.requires.dens (corners_over (polygon_at c.args.parent.now.level.polygons c.args.f) c.face_mask-mask.result.size) _ c.face_mask-mask.ensures.mask
    (joined-corners (polygon_at c.args.parent.now.level.polygons c.args.f))
    (known-corners c.args.parent.now.level c.args.dens.now [] c.requires.dens (polygon_at c.args.parent.now.level.polygons c.args.f)
    (recursion_from_All (λ v. v < length c.args.dens.now) (polygon_at c.args.parent.now.level.polygons c.args.f)
    (face-corners c.args.parent.now c.facts.ensures c.args.f c.requires.known c.args.dens.now c.requires.dens)))
    c.args.den c.requires.den c.requires.short (weigh_points 1 c.face_vertices.result.now) (ap (weigh_points 1) c.face_vertices.ensures)
    c.size.result c.quotient-multiple.result c.size.ensures c.quotient-multiple.ensures c.args.sums.now c.requires.clear c.add_corners.new.sums
    (c.add_corners.ensures ∙ ap (λ l. added_shares 1 l c.args.sums.now) (sym (flat-corners c.args.parent.now.level c.args.dens.now [] c.quotient-multiple.result c.face_vertices.result.now)))
