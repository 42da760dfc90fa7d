use Rattle.subdiv_model.specs.TableText.{text_of_table}
use Rattle.memory_streams.proofs.KeptLemmas.{keeps-slice, adds-text}
use Rattle.table_arrays.proofs.write.write_into.Goals as goal

pub returns : goal.returns
returns c = record {
  added = adds-text c.args.sink.now c.write_table.new.sink (text_of_table c.args.table.now) c.write_table.result c.write_table.ensures.ok c.write_table.ensures.cause;
  kept = keeps-slice c.args.sink.now c.write_table.new.sink c.write_table.ensures.fixed;
}
