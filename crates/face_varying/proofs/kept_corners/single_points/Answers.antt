use Rattle.std.proofs.Common.{arith}
use Rattle.face_varying.proofs.KeptLemmas.{singles-are}
use Rattle.face_varying.proofs.kept_corners.single_points.Goals as goal

pub returns : goal.returns
returns c =
    singles-are c.args.numbers.now c.in_ok-counts.counts.items c.loop-i.marks.items c.args.points (omega (arith, c.loop-i.invariant.size, c.loop-i-test.false, c.loop-i.auto.i-end)) c.in_ok-counts.ensures.counts
    (λ p h. c.loop-i.invariant.marks p (omega (arith, h, c.loop-i-test.false)))
