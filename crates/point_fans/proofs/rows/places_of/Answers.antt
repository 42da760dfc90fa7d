use Rattle.std.proofs.Common.{◌≡◌, ◌≤◌, ◌^◌, [], subst, sym, arith, rules, length, vec_len}
use Rattle.point_fans.proofs.ChainLemmas.{places-fit, places-more, places-all}
use Rattle.point_fans.proofs.rows.places_of.Goals as goal

pub add-requires-clause-size : goal.add-requires-clause-size
add-requires-clause-size c =
    subst (λ l. length l ≤ 2 ^ 16) (sym c.list.ensures) (c.requires.sizes c.loop-i.i [] (omega (arith, c.loop-i-test.true, c.len-i-end.ensures.count)))

pub add-requires-clause-items_fit : goal.add-requires-clause-items_fit
add-requires-clause-items_fit c =
    let n : vec_len c.loop-i.places.items ≡ length c.loop-i.places.items.items = search rules in
    omega (arith, n, c.loop-i.invariant.items_fit, places-fit c.args.lists.now.lists _ _ _ c.list.result.now c.loop-i.i (omega (arith, c.loop-i-test.true, c.len-i-end.ensures.count)) c.list.ensures c.loop-i.invariant.placed)

pub add-requires-clause-owners_fit : goal.add-requires-clause-owners_fit
add-requires-clause-owners_fit c =
    let n : vec_len c.loop-i.places.owners ≡ length c.loop-i.places.owners.items = search rules in
    omega (arith, n, c.loop-i.invariant.owners_fit, c.loop-i.invariant.placed.owner_count, places-fit c.args.lists.now.lists _ _ _ c.list.result.now c.loop-i.i (omega (arith, c.loop-i-test.true, c.len-i-end.ensures.count)) c.list.ensures c.loop-i.invariant.placed)

pub add-requires-clause-places_fit : goal.add-requires-clause-places_fit
add-requires-clause-places_fit c =
    let n : vec_len c.loop-i.places.within ≡ length c.loop-i.places.within.items = search rules in
    omega (arith, n, c.loop-i.invariant.places_fit, c.loop-i.invariant.placed.within_count, places-fit c.args.lists.now.lists _ _ _ c.list.result.now c.loop-i.i (omega (arith, c.loop-i-test.true, c.len-i-end.ensures.count)) c.list.ensures c.loop-i.invariant.placed)

pub loop-i-preserved : goal.loop-i-preserved
loop-i-preserved c = record {
  placed = places-more c.args.lists.now.lists c.loop-i.places.items.items c.loop-i.places.owners.items c.loop-i.places.within.items c.list.result.now c.add.new.self.items.items c.add.new.self.owners.items c.add.new.self.within.items c.loop-i.i
      (omega (arith, c.loop-i-test.true, c.len-i-end.ensures.count)) c.list.ensures c.requires.distinct c.loop-i.invariant.placed c.add.ensures.items c.add.ensures.owners c.add.ensures.within;
  items_fit = omega (arith, c.loop-i.invariant.items_fit, c.add.ensures.item_capacity);
  owners_fit = omega (arith, c.loop-i.invariant.owners_fit, c.add.ensures.owner_capacity);
  places_fit = omega (arith, c.loop-i.invariant.places_fit, c.add.ensures.place_capacity);
}

pub returns : goal.returns
returns c =
    places-all c.args.lists.now.lists c.loop-i.places.items.items c.loop-i.places.owners.items c.loop-i.places.within.items c.loop-i.i (omega (arith, c.loop-i-test.false, c.len-i-end.ensures.count)) c.loop-i.invariant.placed
