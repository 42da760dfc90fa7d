use Rattle.std.proofs.Common.{rules, arith}
use Rattle.memory_streams.proofs.OkLemmas.{none-failed}
use Rattle.memory_streams.proofs.SliceLemmas.{number-kept}
use Rattle.memory_streams.proofs.sink.SliceSinkSink.TheImpl.Goals as goal

pub write-tells : goal.write-tells
write-tells g c = record {
  count = search rules;
  some = search rules;
  added = search rules;
  failed = none-failed _ c.result c.ensures.fine;
  cause = none-failed _ c.result c.ensures.fine;
  later = omega arith;
  fixed = number-kept c.ensures.same_reference c.ensures.same_before;
}

pub flush-tells : goal.flush-tells
flush-tells g c = record {
  same = search rules;
  cause = none-failed _ c.result c.ensures.fine;
  later = omega arith;
  fixed = number-kept c.ensures.same_reference c.ensures.same_before;
}
