use Rattle.sparse_level.proofs.BaseLemmas.{base-is}
use Rattle.sparse_level.proofs.sparse.SparseLevel.base.Goals as goal

pub with_parts-requires : goal.with_parts-requires
with_parts-requires c = base-is c.args.level c.in_ok-numbers.numbers.items c.in_ok-numbers.inner.items c.facts.ensures c.requires c.in_ok-numbers.ensures.numbers c.in_ok-numbers.ensures.inner
