use Rattle.memory_streams.proofs.KeptLemmas.{keeps-slice, adds-text}
use Rattle.array_tests.proofs.streams.add_text.Goals as goal

pub returns : goal.returns
returns c = record {
  added = adds-text c.args.sink.now c.write_all_of.new.sink c.args.text.now c.write_all_of.result c.write_all_of.ensures.ok c.write_all_of.ensures.cause;
  kept = keeps-slice c.args.sink.now c.write_all_of.new.sink c.write_all_of.ensures.fixed;
}
