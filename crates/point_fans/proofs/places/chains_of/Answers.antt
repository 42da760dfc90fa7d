use Rattle.std.proofs.Common.{subst, ◌≡◌, ◌<◌, ◌-◌, ◌+◌, arith, length, get_or, refl}
use Rattle.point_fans.proofs.ChainLemmas.{AreChains, chains-link, chains-none}
use Rattle.point_fans.proofs.places.chains_of.Goals as goal

pub link-requires-clause-number : goal.link-requires-clause-number
link-requires-clause-number c =
    let below = c.requires.inside (c.loop-place.place - 1) 0 (omega (arith, c.loop-place.invariant.within, c.loop-place-test.true)) in
    omega (arith, below, c.loop-place.invariant.linked.first_count)

pub link-requires-clause-place : goal.link-requires-clause-place
link-requires-clause-place c = omega (arith, c.loop-place.invariant.within, c.loop-place-test.true, c.loop-place.invariant.linked.next_count)

pub loop-place-preserved : goal.loop-place-preserved
loop-place-preserved c =
    let inside : c.loop-place.place - 1 < length c.args.numbers.now = omega (arith, c.loop-place.invariant.within, c.loop-place-test.true) in
    let next : c.loop-place.place ≡ c.loop-place.place - 1 + 1 = omega (arith, c.loop-place-test.true) in
    record {
      within = omega (arith, inside);
      linked = rw (c.link.ensures.firsts, c.link.ensures.next)
          (chains-link c.args.numbers.now c.loop-place.firsts.items c.loop-place.next.items c.args.limit (c.loop-place.place - 1) (get_or c.args.numbers.now (c.loop-place.place - 1) 0) inside refl
          (c.requires.inside (c.loop-place.place - 1) 0 inside)
          (subst (λ k. AreChains c.args.numbers.now c.loop-place.firsts.items c.loop-place.next.items c.args.limit k) next c.loop-place.invariant.linked));
    }

pub loop-place-init : goal.loop-place-init
loop-place-init c = record { within = omega arith; linked = rw (c.in_ok-firsts.ensures.items_if_clones_equal (λ y h. h), c.in_ok-next.ensures.items_if_clones_equal (λ y h. h)) (chains-none c.args.numbers.now c.args.limit) }
