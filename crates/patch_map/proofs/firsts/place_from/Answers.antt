use Rattle.std.proofs.Common.{arith}
use Rattle.patch_map.proofs.PlaceLemmas.{place-found}
use Rattle.patch_map.proofs.firsts.place_from.Goals as goal

pub returns-else-numbers-place-clause-place : goal.returns-else-numbers-place-clause-place
returns-else-numbers-place-clause-place c =
    place-found c.args.numbers.now c.args.from c.loop-place.place c.args.start c.loop-place.invariant.low c.loop-place.invariant.inside c.loop-place.invariant.below (λ h. omega (arith, c.if-numbers-place.false))

pub returns-after-loop-place-clause-place : goal.returns-after-loop-place-clause-place
returns-after-loop-place-clause-place c =
    place-found c.args.numbers.now c.args.from c.loop-place.place c.args.start c.loop-place.invariant.low c.loop-place.invariant.inside c.loop-place.invariant.below (λ h. absurd (omega (arith, h, c.loop-place-test.false)))
