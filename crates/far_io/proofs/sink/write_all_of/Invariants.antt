use Rattle.std.proofs.Common.{◌≡◌, ◌≤◌, ◌-◌, length, take}
use Rattle.far_io.specs.Bytes.{Added}
use Rattle.far_io.proofs.sink.write_all_of.Given as goal

-- a prefix was added
abbrev pub invariant-loop-at : goal.invariant-loop-at
invariant-loop-at g l = record {
  within : l.at ≤ length l.text;
  added : Added (g.K.Sink.held l.fn.sink) (g.K.Sink.held l.sink) (take l.at l.text);
  later : g.K.Sink.faults l.fn.sink ≤ g.K.Sink.faults l.sink;
  fixed : g.K.Sink.fixed l.sink ≡ g.K.Sink.fixed l.fn.sink;
}

abbrev pub decreases-loop-at : goal.decreases-loop-at
decreases-loop-at g l = length l.text - l.at
