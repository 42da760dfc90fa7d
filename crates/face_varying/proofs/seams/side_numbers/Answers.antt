use Rattle.std.proofs.Common.{arith, ◌≡◌, ℕ, length, subst}
use Rattle.face_varying.specs.CornerPlaces.{start_of}
use Rattle.face_varying.specs.Sides.{AreNoted}
use Rattle.face_varying.proofs.NotedLemmas.{none-noted}
use Rattle.face_varying.proofs.seams.side_numbers.Goals as goal

pub loop-f-init : goal.loop-f-init
loop-f-init c = none-noted c.args.level.now.level.polygons c.args.raw.now.texture_corners _ _ _ c.in_ok-sides.ensures.along c.in_ok-sides.ensures.against c.edges.ensures

pub note_face-requires-clause-face : goal.note_face-requires-clause-face
note_face-requires-clause-face c = omega (arith, c.loop-f-test.true, c.faces-f-end.ensures)

pub returns : goal.returns
returns c =
    let polygons = c.args.level.now.level.polygons in
    let all : c.loop-f.f ≡ length polygons = omega (arith, c.loop-f-test.false, c.loop-f.auto.f-end, c.faces-f-end.ensures) in
    subst (λ (f : ℕ). AreNoted polygons c.args.raw.now.texture_corners c.loop-f.sides.along.items c.loop-f.sides.against.items (start_of polygons f)) all c.loop-f.invariant
