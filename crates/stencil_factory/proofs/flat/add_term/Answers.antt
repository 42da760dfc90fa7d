use Rattle.std.proofs.Common.{arith, ap, length, sym, ◌∙◌, subst}
use Rattle.child_masks.proofs.FaceLemmas.{face-corners}
use Rattle.child_masks.proofs.OriginLemmas.{some-corners}
use Rattle.place_sums.specs.Sums.{added_at, added_shares}
use Rattle.stencil_factory.specs.Flat.{CanAddAll}
use Rattle.stencil_factory.proofs.AddedLemmas.{weigh-point, weigh-face, point-can, point-added, face-shares}
use Rattle.stencil_factory.proofs.flat.add_term.Goals as goal

pub bounds-dens-v : goal.bounds-dens-v
bounds-dens-v g c = (weigh-point c.args.parent.now.level c.args.dens.now c.args.faces.now c.args.multiple c.args.term.now c.requires.weigh c.in-Point.v c.in-Point.is).0

pub weight_over-amount-requires-clause-positive : goal.weight_over-amount-requires-clause-positive
weight_over-amount-requires-clause-positive g c =
    c.requires.dens.positive c.in-Point.v 0 (weigh-point c.args.parent.now.level c.args.dens.now c.args.faces.now c.args.multiple c.args.term.now c.requires.weigh c.in-Point.v c.in-Point.is).0

pub weight_over-amount-requires-clause-small : goal.weight_over-amount-requires-clause-small
weight_over-amount-requires-clause-small g c = (weigh-point c.args.parent.now.level c.args.dens.now c.args.faces.now c.args.multiple c.args.term.now c.requires.weigh c.in-Point.v c.in-Point.is).1

pub of-requires : goal.of-requires
of-requires g c =
    let can = point-can c.args.parent.now.level c.args.dens.now c.args.faces.now c.args.multiple c.args.term.now
    c.requires.weigh c.in-Point.v c.weight_over-amount.result c.in-Point.is c.weight_over-amount.ensures g.T.Natural.most c.args.sums.now c.requires.can in
    omega (arith, can.2)

pub add-requires-clause-inside : goal.add-requires-clause-inside
add-requires-clause-inside g c =
    (point-can c.args.parent.now.level c.args.dens.now c.args.faces.now c.args.multiple c.args.term.now
    c.requires.weigh c.in-Point.v c.weight_over-amount.result c.in-Point.is c.weight_over-amount.ensures g.T.Natural.most c.args.sums.now c.requires.can).0

pub add-requires-clause-some : goal.add-requires-clause-some
add-requires-clause-some g c =
    rw c.of.ensures
    (point-can c.args.parent.now.level c.args.dens.now c.args.faces.now c.args.multiple c.args.term.now
    c.requires.weigh c.in-Point.v c.weight_over-amount.result c.in-Point.is c.weight_over-amount.ensures g.T.Natural.most c.args.sums.now c.requires.can).1

pub add-requires-clause-fits : goal.add-requires-clause-fits
add-requires-clause-fits g c =
    rw c.of.ensures
    (point-can c.args.parent.now.level c.args.dens.now c.args.faces.now c.args.multiple c.args.term.now
    c.requires.weigh c.in-Point.v c.weight_over-amount.result c.in-Point.is c.weight_over-amount.ensures g.T.Natural.most c.args.sums.now c.requires.can).2

pub bounds-faces-f : goal.bounds-faces-f
bounds-faces-f g c = (weigh-face c.args.parent.now.level c.args.dens.now c.args.faces.now c.args.multiple c.args.term.now c.requires.weigh c.in-FacePoint.f c.in-FacePoint.is).1

pub weight_over-factor-requires-clause-positive : goal.weight_over-factor-requires-clause-positive
weight_over-factor-requires-clause-positive g c =
    (weigh-face c.args.parent.now.level c.args.dens.now c.args.faces.now c.args.multiple c.args.term.now c.requires.weigh c.in-FacePoint.f c.in-FacePoint.is).2

pub weight_over-factor-requires-clause-small : goal.weight_over-factor-requires-clause-small
weight_over-factor-requires-clause-small g c = (weigh-face c.args.parent.now.level c.args.dens.now c.args.faces.now c.args.multiple c.args.term.now c.requires.weigh c.in-FacePoint.f c.in-FacePoint.is).3

pub quotient-requires : goal.quotient-requires
quotient-requires g c =
    let known = (weigh-face c.args.parent.now.level c.args.dens.now c.args.faces.now c.args.multiple c.args.term.now c.requires.weigh c.in-FacePoint.f c.in-FacePoint.is).0 in
    omega (arith, some-corners c.args.parent.now c.facts.ensures c.in-FacePoint.f known, ap length c.face_vertices-corners.ensures)

pub add_corners-requires-clause-within : goal.add_corners-requires-clause-within
add_corners-requires-clause-within g c =
    let known = (weigh-face c.args.parent.now.level c.args.dens.now c.args.faces.now c.args.multiple c.args.term.now c.requires.weigh c.in-FacePoint.f c.in-FacePoint.is).0 in
    rw c.face_vertices-corners.ensures (face-corners c.args.parent.now c.facts.ensures c.in-FacePoint.f known c.args.dens.now c.requires.dens)

pub add_corners-requires-clause-positive : goal.add_corners-requires-clause-positive
add_corners-requires-clause-positive g c = c.requires.dens.positive

pub add_corners-requires-clause-can : goal.add_corners-requires-clause-can
add_corners-requires-clause-can g c =
    let shares = face-shares c.args.parent.now.level c.args.dens.now c.args.faces.now c.args.multiple c.args.term.now
    c.requires.weigh c.in-FacePoint.f c.weight_over-factor.result c.quotient.result c.face_vertices-corners.result.now c.in-FacePoint.is
    c.face_vertices-corners.ensures c.weight_over-factor.ensures c.quotient.ensures in
    subst (λ l. CanAddAll g.T.Natural.most l c.args.sums.now) shares c.requires.can

pub returns-in-Point : goal.returns-in-Point
returns-in-Point g c =
    let added = point-added c.args.parent.now.level c.args.dens.now c.args.faces.now c.args.multiple c.args.term.now
    c.requires.weigh c.in-Point.v c.weight_over-amount.result c.in-Point.is c.weight_over-amount.ensures c.args.sums.now c.add.new.self in
    added (c.add.ensures ∙ ap (λ n. added_at c.in-Point.v n c.args.sums.now) c.of.ensures)

pub returns-in-FacePoint : goal.returns-in-FacePoint
returns-in-FacePoint g c =
    let shares = face-shares c.args.parent.now.level c.args.dens.now c.args.faces.now c.args.multiple c.args.term.now
    c.requires.weigh c.in-FacePoint.f c.weight_over-factor.result c.quotient.result c.face_vertices-corners.result.now c.in-FacePoint.is
    c.face_vertices-corners.ensures c.weight_over-factor.ensures c.quotient.ensures in
    c.add_corners.ensures ∙ ap (λ l. added_shares 1 l c.args.sums.now) (sym shares)
