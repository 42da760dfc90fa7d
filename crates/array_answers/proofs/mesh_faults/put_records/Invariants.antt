use Rattle.std.proofs.Common.{◌≡◌, length, map, take, drop}
use Rattle.mesh_check.specs.View.{mesh_fault_of}
use Rattle.array_answers.specs.MeshFaults.{records_of}
use Rattle.array_answers.proofs.mesh_faults.put_records.Given as goal

-- the records so far are written, and the places behind them are as they were
abbrev pub invariant-loop-k : goal.invariant-loop-k
invariant-loop-k l = record {
  written : take l.k l.out ≡ records_of (map mesh_fault_of (take l.k l.faults));
  rest : drop l.k l.out ≡ drop l.k l.fn.out;
  len : length l.out ≡ length l.fn.out;
}
