use Rattle.memory_streams.proofs.SliceLemmas.{later-kept}
use Rattle.memory_streams.proofs.sink.SliceSinkSink.write.Goals as goal

pub invariant_of-self-2 : goal.invariant_of-self-2
invariant_of-self-2 c = record {
  same_length = c.args.self.now.same_length;
  kept = later-kept c.args.self.now.out.now c.args.self.now.before.bytes c.args.self.now.at c.min-n.result c.args.self.now.kept;
}
