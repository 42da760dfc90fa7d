use Rattle.std.proofs.Common.{◌≡◌, ◌+◌, ◌++◌, sum, drop}
use Rattle.raw_mesh.specs.Starts.{starts_from}
use Rattle.raw_mesh.proofs.parts.starts_of.Given as goal

-- what is pushed, with what is to come, is all
abbrev pub invariant-loop-size : goal.invariant-loop-size
invariant-loop-size l = record {
  starts : l.starts.items ++ starts_from l.place (drop l.size-index l.sizes) ≡ starts_from 0 l.sizes;
  sum : l.place + sum (drop l.size-index l.sizes) ≡ sum l.sizes;
}
