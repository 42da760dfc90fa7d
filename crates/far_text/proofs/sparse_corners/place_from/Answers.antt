use Rattle.std.proofs.Common.{arith}
use Rattle.far_text.proofs.FaceNumberLemmas.{next-place, stopped-place}
use Rattle.far_text.proofs.sparse_corners.place_from.Goals as goal

pub loop-place-preserved : goal.loop-place-preserved
loop-place-preserved c =
    next-place c.args.texture.now c.args.number c.loop-place.place c.loop-place.invariant (omega (arith, c.loop-place-test.true, c.len.ensures))
    (omega (arith, c.if-number.true, c.number.ensures))

pub returns-else-number : goal.returns-else-number
returns-else-number c =
    stopped-place c.args.texture.now c.args.number c.loop-place.place c.loop-place.invariant (λ within. omega (arith, c.if-number.false, c.number.ensures))

pub returns-after-loop-place : goal.returns-after-loop-place
returns-after-loop-place c =
    stopped-place c.args.texture.now c.args.number c.loop-place.place c.loop-place.invariant
    (λ within. absurd (omega (arith, within, c.loop-place-test.false, c.len.ensures)))
