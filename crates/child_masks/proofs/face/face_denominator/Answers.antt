use Rattle.std.proofs.Common.{◌*◌, map, get_or, arith, ap, ◌∙◌}
use Rattle.subdiv_model.specs.Multiples.{lcm_of_all}
use Rattle.subdiv_model.specs.Polygons.{polygon_at}
use Rattle.child_masks.specs.Survey.{within_bound}
use Rattle.child_masks.proofs.FaceLemmas.{face-corners, corners-three, positive-lcm, face-same}
use Rattle.child_masks.proofs.face.face_denominator.Goals as goal

pub multiple_of_points-requires-clause-within : goal.multiple_of_points-requires-clause-within
multiple_of_points-requires-clause-within c = rw c.face_vertices.ensures (face-corners c.args.level.now c.facts.ensures c.args.f c.requires.known c.args.dens.now c.requires.dens)

pub returns : goal.returns
returns c =
    let level = c.args.level.now.level in
    let dens = c.args.dens.now in
    let polygon = polygon_at level.polygons c.args.f in
    let multiple = lcm_of_all (map (λ v. get_or dens v 1) polygon) in
    let three = corners-three c.args.level.now c.facts.ensures c.args.f c.requires.known in
    let here = c.multiple_of_points.ensures ∙ ap (λ points. within_bound (lcm_of_all (map (λ v. get_or dens v 1) points))) c.face_vertices.ensures in
    c.scaled.ensures multiple (omega (arith, three, c.size-size.ensures, c.face_mask.ensures.size)) (positive-lcm dens polygon c.requires.dens.positive (face-corners c.args.level.now c.facts.ensures c.args.f c.requires.known dens c.requires.dens)) here
    ∙ ap (λ n. within_bound (n * multiple)) c.size-size.ensures
    ∙ ap within_bound (face-same level c.args.f c.face_mask.result.size dens c.face_mask.ensures.mask)
