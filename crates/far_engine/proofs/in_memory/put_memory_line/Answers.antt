use Rattle.far_engine.specs.MemoryRuns.{memory_line}
use Rattle.memory_streams.proofs.KeptLemmas.{keeps-slice, adds-text}
use Rattle.far_engine.proofs.in_memory.put_memory_line.Goals as goal

pub returns : goal.returns
returns c = record {
  added = adds-text c.args.errors.now c.report.new.sink memory_line c.report.result c.report.ensures.ok c.report.ensures.cause;
  kept = keeps-slice c.args.errors.now c.report.new.sink c.report.ensures.fixed;
}
