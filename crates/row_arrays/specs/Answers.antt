-- The results of the calls over numbers of either format.
use Rattle.std.specs.Prelude.{ℕ, List, map, Result, MatchResult}
use Rattle.std.specs.List.{AllZip}
use Rattle.flat_arrays.specs.declared.wide.Wide.{Wide}
use Rattle.flat_arrays.specs.Words.{integer_of}
use Rattle.row_arrays.specs.declared.number_fault.NumberFault.{NumberFault}
use Rattle.row_arrays.specs.declared.floats.Floats.{Floats}
use Rattle.row_arrays.specs.Floats.{bits_of, format_of}
use Rattle.row_arrays.specs.Grid.{AreRounded, IsRoundFault}
use Rattle.row_arrays.specs.Scale.{IsNumerator, AreScaled}
use Rattle.row_arrays.specs.ScaleFaults.{IsLargeFault, IsScaleFault}

-- the numbers are rounded to the grid, and so many change, or the first number that has no numerator over the grid is refused
abbrev pub AreFloatsRounded : Floats → ℕ → List Wide → Result ℕ NumberFault → Type 0
AreFloatsRounded numbers grid_bits words result =
    MatchResult result (λ changed. AreRounded (format_of numbers) grid_bits (bits_of numbers) changed (map integer_of words))
    (IsRoundFault (format_of numbers) grid_bits (bits_of numbers))

-- the numerators of the numbers over this scale are written, or the first number whose numerator is too large is refused
abbrev pub AreFloatsPut : Floats → ℕ → List Wide → Result (Unit {0}) NumberFault → Type 0
AreFloatsPut numbers scale words result =
    MatchResult result (λ _. AllZip (IsNumerator (format_of numbers) scale) (bits_of numbers) (map integer_of words))
    (IsLargeFault (format_of numbers) (bits_of numbers) scale)

-- the numerators of the numbers over their least common denominator are written, or a number is refused
abbrev pub AreFloatsScaled : Floats → List Wide → Result ℕ NumberFault → Type 0
AreFloatsScaled numbers words result =
    MatchResult result (λ scale. AreScaled (format_of numbers) (bits_of numbers) scale (map integer_of words))
    (IsScaleFault (format_of numbers) (bits_of numbers))
