use Rattle.std.proofs.Common.{take}
use Rattle.row_arrays.specs.Floats.{bits_of, format_of}
use Rattle.row_arrays.proofs.NumeratorLemmas.{ArePut}
use Rattle.row_arrays.proofs.scale.put_numerators.Given as goal

-- the numerators of the numbers before this one are written
abbrev pub invariant-loop-place : goal.invariant-loop-place
invariant-loop-place l = ArePut (format_of l.numbers) l.scale (take l.place (bits_of l.numbers)) (take l.place l.out)
