use Rattle.std.proofs.Common.{◌≡◌, length, map, take, drop}
use Rattle.std.specs.List.{range_with_len}
use Rattle.nearest_float.specs.Binary.{binary64}
use Rattle.nearest_float.specs.NearestArrays.{AreNearest}
use Rattle.row_arrays.specs.Fractions.{fraction_at}
use Rattle.row_arrays.proofs.round.put_doubles.Given as goal

-- the doubles of the numbers before this one
abbrev pub invariant-loop-place : goal.invariant-loop-place
invariant-loop-place l = record {
  nearest : AreNearest binary64 (map (fraction_at l.fractions) (range_with_len 0 l.place)) (take l.place l.out);
  rest : drop l.place l.out ≡ drop l.place l.fn.out;
  len : length l.out ≡ length l.fn.out;
}
