use Rattle.std.proofs.Common.{◌≡◌, length, map, take}
use Rattle.flat_arrays.specs.Words.{natural_of}
use Rattle.table_arrays.proofs.numbers.fill_words.Given as goal

-- the words of the numbers so far
abbrev pub invariant-loop-k : goal.invariant-loop-k
invariant-loop-k g l = record {
  words : map natural_of (take l.k l.out) ≡ map g.T.Natural.value (take l.k l.numbers);
  len : length l.out ≡ length l.fn.out;
}
