use Rattle.std.proofs.Common.{◌≡◌, length, map, take, pos}
use Rattle.nearest_float.specs.Binary.{binary64}
use Rattle.nearest_float.specs.NearestArrays.{AreNearest}
use Rattle.table_arrays.proofs.doubles.fill_binary64.Given as goal

-- the numbers so far
abbrev pub invariant-loop-k : goal.invariant-loop-k
invariant-loop-k g l = record {
  nearest : AreNearest binary64 (take l.k (map (λ numerator. (pos (g.T.Natural.value numerator), l.den)) l.numerators)) (take l.k l.out);
  len : length l.out ≡ length l.fn.out;
}
