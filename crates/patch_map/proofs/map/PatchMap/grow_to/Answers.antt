use Rattle.patch_map.proofs.PlaceLemmas.{numbers-small}
use Rattle.patch_map.proofs.map.PatchMap.grow_to.Goals as goal

pub push_level-requires-clause-small : goal.push_level-requires-clause-small
push_level-requires-clause-small c = numbers-small c.args.next.now c.facts.ensures c.numbers.result.now c.numbers.ensures
