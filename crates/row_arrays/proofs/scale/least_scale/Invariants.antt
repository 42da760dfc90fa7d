use Rattle.std.proofs.Common.{take}
use Rattle.row_arrays.specs.Floats.{bits_of, format_of}
use Rattle.row_arrays.specs.Scale.{IsLeastScale}
use Rattle.row_arrays.proofs.scale.least_scale.Given as goal

-- the scale is the least common denominator of the numbers before this one
abbrev pub invariant-loop-place : goal.invariant-loop-place
invariant-loop-place l = IsLeastScale (format_of l.numbers) (take l.place (bits_of l.numbers)) l.scale
