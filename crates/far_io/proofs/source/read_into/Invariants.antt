use Rattle.std.proofs.Common.{◌≤◌, vec_len}
use Rattle.far_io.specs.Bytes.{Took}
use Rattle.far_io.proofs.source.read_into.Given as goal

-- what was taken is here, and each turn took a byte
abbrev pub invariant-loop : goal.invariant-loop
invariant-loop g l = record {
  taken : Took (g.S.Source.left l.fn.source) (g.S.Source.left l.source) l.bytes.items;
  within : vec_len l.bytes ≤ l.fn.bound;
  turns : l.counter ≤ vec_len l.bytes;
  later : g.S.Source.faults l.fn.source ≤ g.S.Source.faults l.source;
}
