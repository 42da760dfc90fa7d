use Rattle.std.proofs.Common.{rules, ◌++◌, ◌∙◌, ap, arith}
use Rattle.point_fans.proofs.ChainLemmas.{push-take, push-same}
use Rattle.level_topology.proofs.ListPlaceLemmas.{push-range}
use Rattle.std.proofs.lemmas.List.{take_all}
use Rattle.point_fans.proofs.places.Places.add.Goals as goal

pub loop-c-preserved : goal.loop-c-preserved
loop-c-preserved c = record {
  items = push-take c.args.self.now.items.items c.loop-c.self.items.items _ c.args.list.now c.loop-c.c c.loop-c-test.true c.loop-c.invariant.items c.push_reserved.ensures.items;
  owners = push-same c.args.self.now.owners.items c.loop-c.self.owners.items _ c.args.owner c.loop-c.c c.loop-c.invariant.owners c.push_reserved-in-loop-c.ensures.items;
  within = push-range c.args.self.now.within.items c.loop-c.self.within.items _ c.loop-c.c c.loop-c.invariant.within c.push_reserved-in-loop-c-2.ensures.items;
  item_count = search rules;
  owner_count = search rules;
  place_count = search rules;
  item_capacity = search rules;
  owner_capacity = search rules;
  place_capacity = search rules;
}

pub returns-clause-items : goal.returns-clause-items
returns-clause-items c = c.loop-c.invariant.items ∙ ap (λ xs. c.args.self.now.items.items ++ xs) (take_all c.loop-c.c c.args.list.now (omega (arith, c.loop-c-test.false)))
