-- A sink over a slice keeps its slice, and no write into it fails.
use Rattle.std.proofs.Common.{◌≡◌, ℕ, inl, inr, List, ◌++◌, Result, Ok, Err, OnOk, OnErr, arith}
use Rattle.far_io.specs.Bytes.{Rose, Added}
use Rattle.memory_streams.specs.Text.{text_of, before_of, KeepsSlice}
use Rattle.memory_streams.specs.declared.sink.SliceSink.{SliceSink}
use Rattle.memory_streams.specs.contracts.sink.SliceSinkSink.TheImpl as sink
use Rattle.memory_streams.proofs.SliceLemmas.{slice-kept}

pub keeps-slice : (k k' : SliceSink) → sink.ghosts.fixed k' ≡ sink.ghosts.fixed k → KeepsSlice k k'
keeps-slice k k' fixed =
    let same = slice-kept k.out.ghost_name k'.out.ghost_name (before_of k) (before_of k') fixed in
    record { same_reference = same.0; same_before = same.1 }

never-rose : Rose 0 0 → ⊥
never-rose (inl more) = omega arith
never-rose (inr end) = omega arith

-- the sink adds the whole text
pub adds-text : {E : Type 0} (k k' : SliceSink) (text : List ℕ) (result : Result (Unit {0}) E) → OnOk result (Added (sink.ghosts.held k) (sink.ghosts.held k') text)
    → OnErr result (Rose (sink.ghosts.faults k) (sink.ghosts.faults k')) → text_of k' ≡ text_of k ++ text
adds-text k k' text (Ok x) added cause = added
adds-text k k' text (Err x) added cause = absurd (never-rose cause)
