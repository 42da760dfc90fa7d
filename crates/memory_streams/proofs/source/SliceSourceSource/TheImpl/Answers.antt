use Rattle.std.proofs.Common.{rules, arith}
use Rattle.memory_streams.proofs.OkLemmas.{none-failed, few-came, end-came}
use Rattle.memory_streams.proofs.source.SliceSourceSource.TheImpl.Goals as goal

pub read-tells : goal.read-tells
read-tells g c = record {
  count = few-came c.result _ _ c.ensures.count;
  taken = search rules;
  end = end-came c.result _ _ c.ensures.count;
  failed = none-failed _ c.result c.ensures.fine;
  cause = none-failed _ c.result c.ensures.fine;
  later = omega arith;
}
