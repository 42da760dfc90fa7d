-- The format and the bits of numbers.
use Rattle.std.specs.Prelude.{ℕ, List, get_or}
use Rattle.nearest_float.specs.Binary.{Format, binary32, binary64}
use Rattle.row_arrays.specs.declared.floats.Floats.{Floats}
use Rattle.row_arrays.specs.declared.floats.Floats.TheVariants.{Doubles, Singles}

-- The format of the numbers.
abbrev pub format_of : Floats → Format
format_of (Doubles bits) = binary64
format_of (Singles bits) = binary32

-- The bits of all numbers.
abbrev pub bits_of : Floats → List ℕ
bits_of (Doubles bits) = bits.now
bits_of (Singles bits) = bits.now

-- The bits of the number at a place.
abbrev pub bits_at : Floats → ℕ → ℕ
bits_at numbers place = get_or (bits_of numbers) place 0
