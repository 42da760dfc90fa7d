use Rattle.std.proofs.Common.{arith, take}
use Rattle.std.proofs.lemmas.List.{length-take}
use Rattle.std.proofs.lemmas.Result.{MatchResult-from_err}
use Rattle.sharpness_rules.proofs.RingLemmas.{length-ring, ring-too_fine}
use Rattle.sharpness_rules.proofs.sums.total_of_ring.Goals as goal

pub plus-requires : goal.plus-requires
plus-requires c = record {
  countable = omega (arith, c.loop-s.invariant.count, length-ring (take c.loop-s.s-index c.args.ring.now), length-take c.loop-s.s-index c.args.ring.now);
}

pub returns-in_err-total : goal.returns-in_err-total
returns-in_err-total c =
    MatchResult-from_err _ _ _ c.from_residual.ensures.0
    (λ _. ring-too_fine c.args.ring.now c.loop-s.s-index c.s-item.result c.loop-s-test.true c.s-item.is (c.in_err-total.ensures _ c.loop-s.invariant))
