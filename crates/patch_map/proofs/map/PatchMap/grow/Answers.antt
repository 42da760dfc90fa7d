use Rattle.sparse_level.specs.View.{next_of}
use Rattle.patch_map.proofs.MapLemmas.{starts-rise}
use Rattle.patch_map.proofs.StepLemmas.{if-mapped}
use Rattle.patch_map.proofs.PlaceLemmas.{numbers-small}
use Rattle.patch_map.proofs.map.PatchMap.grow.Goals as goal

pub push_level-requires-clause-small : goal.push_level-requires-clause-small
push_level-requires-clause-small c = numbers-small (next_of c.args.step.now) c.facts-2.ensures c.numbers.result.now c.numbers.ensures

pub returns-clause-is : goal.returns-clause-is
returns-clause-is c = λ base predicate is step.
    if-mapped base predicate c.args.sparse.now c.args.step.now c.args.self.now is step c.selected.result.now c.depth.result c.numbers.result.now c.selected.ensures c.depth.ensures c.numbers.ensures
    c.push_level.result c.push_level.new.self (c.push_level.ensures.map (starts-rise base predicate c.args.sparse.now.depth c.args.self.now is))
