use Rattle.far_engine.proofs.MemorySliceLemmas.{same-out}
use Rattle.far_engine.proofs.in_memory.run_streams.Goals as goal

pub returns : goal.returns
returns c =
    let same = same-out c.run_counted.ensures in
    record { runs = c.run_counted.ensures; kept_out = same.0; kept_errors = same.1 }
