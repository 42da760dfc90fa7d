use Rattle.std.proofs.Common.{◌≡◌, ◌*◌, ◌^◌, ◌≤◌, sum, take}
use Rattle.raw_mesh.proofs.bad_part.corner_count.Given as goal

-- the sum so far, which is small
abbrev pub invariant-loop-size : goal.invariant-loop-size
invariant-loop-size l = record {
  sum : l.count ≡ sum (take l.size-index l.sizes);
  small : l.count ≤ l.size-index * 2 ^ 32;
}
