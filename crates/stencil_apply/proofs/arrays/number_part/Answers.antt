use Rattle.stencil_apply.proofs.ArrayLemmas.{ascend-at}
use Rattle.stencil_apply.proofs.arrays.number_part.Goals as goal

pub range-requires-clause-forward : goal.range-requires-clause-forward
range-requires-clause-forward c = rw c.start-from.ensures (ascend-at 0 _ _ c.args.row c.requires.ascend c.requires.inside).0

pub range-requires-clause-inside : goal.range-requires-clause-inside
range-requires-clause-inside c = (ascend-at 0 _ _ c.args.row c.requires.ascend c.requires.inside).1
