use Rattle.std.proofs.Common.{◌≡◌, arith, rules, length, vec_len}
use Rattle.point_fans.proofs.ChainLemmas.{pair-fits, pair-more, pair-all}
use Rattle.point_fans.proofs.rows.places_of_ends.Goals as goal

pub add-requires-clause-items_fit : goal.add-requires-clause-items_fit
add-requires-clause-items_fit c =
    let n : vec_len c.loop-e.places.items ≡ length c.loop-e.places.items.items = search rules in
    omega (arith, n, c.loop-e.invariant.items_fit, pair-fits c.args.ends.now _ _ _ c.loop-e.e c.loop-e-test.true c.loop-e.invariant.placed)

pub add-requires-clause-owners_fit : goal.add-requires-clause-owners_fit
add-requires-clause-owners_fit c =
    let n : vec_len c.loop-e.places.owners ≡ length c.loop-e.places.owners.items = search rules in
    omega (arith, n, c.loop-e.invariant.owners_fit, c.loop-e.invariant.placed.owner_count, pair-fits c.args.ends.now _ _ _ c.loop-e.e c.loop-e-test.true c.loop-e.invariant.placed)

pub add-requires-clause-places_fit : goal.add-requires-clause-places_fit
add-requires-clause-places_fit c =
    let n : vec_len c.loop-e.places.within ≡ length c.loop-e.places.within.items = search rules in
    omega (arith, n, c.loop-e.invariant.places_fit, c.loop-e.invariant.placed.within_count, pair-fits c.args.ends.now _ _ _ c.loop-e.e c.loop-e-test.true c.loop-e.invariant.placed)

pub loop-e-preserved : goal.loop-e-preserved
loop-e-preserved c = record {
  placed = pair-more c.args.ends.now c.loop-e.places.items.items c.loop-e.places.owners.items c.loop-e.places.within.items c.add.new.self.items.items c.add.new.self.owners.items c.add.new.self.within.items c.loop-e.e
      c.loop-e-test.true c.requires.distinct c.loop-e.invariant.placed c.add.ensures.items c.add.ensures.owners c.add.ensures.within;
  items_fit = omega (arith, c.loop-e.invariant.items_fit, c.add.ensures.item_capacity);
  owners_fit = omega (arith, c.loop-e.invariant.owners_fit, c.add.ensures.owner_capacity);
  places_fit = omega (arith, c.loop-e.invariant.places_fit, c.add.ensures.place_capacity);
}

pub returns : goal.returns
returns c =
    pair-all c.args.ends.now c.loop-e.places.items.items c.loop-e.places.owners.items c.loop-e.places.within.items c.loop-e.e (omega (arith, c.loop-e-test.false)) c.loop-e.invariant.placed
