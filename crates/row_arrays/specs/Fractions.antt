-- Fractions in flat arrays, and their first fault.
use Rattle.std.specs.Prelude.{ℕ, ◌*◌, ◌/◌, ◌^◌, ◌||◌, ℤ, Bool, nat_lt, nat_le, nat_eq, unsigned_abs, List, length, map, take, Option, Some, option_map, if◌then◌else◌}
use Rattle.std.specs.Int.{div_ceil}
use Rattle.std.specs.List.{position, range_with_len}
use Rattle.std.specs.Option.{option_or}
use Rattle.flat_arrays.specs.Words.{natural_of, integer_of}
use Rattle.flat_arrays.specs.declared.wide.Wide.{Wide}
use Rattle.row_arrays.specs.Rows.{wide_at}
use Rattle.row_arrays.specs.declared.fraction_fault.FractionFault.{FractionFault}
use Rattle.row_arrays.specs.declared.fraction_fault.FractionFault.TheVariants.{Short, Denominator, Numerator}
use Rattle.row_arrays.specs.declared.fractions.FractionArrays.{FractionArrays}

-- How many denominators the numerators need, at `per` numerators for each.
abbrev pub needed : FractionArrays → ℕ
needed fractions = div_ceil (length fractions.numerators.now) fractions.per

-- The numerator and the denominator of the number at a place.
abbrev pub fraction_at : FractionArrays → ℕ → ℤ × ℕ
fraction_at fractions place =
    (integer_of (wide_at fractions.numerators.now place), natural_of (wide_at fractions.denominators.now (place / fractions.per)) * natural_of fractions.scale)

-- The fractions of all numbers, in order.
abbrev pub fractions_of : FractionArrays → List (ℤ × ℕ)
fractions_of fractions = map (fraction_at fractions) (range_with_len 0 (length fractions.numerators.now))

-- Whether `per` is 0, the output has too few places, or denominators are missing.
abbrev pub is_short : FractionArrays → ℕ → Bool
is_short fractions places =
    nat_eq fractions.per 0 || (nat_lt places (length fractions.numerators.now) || nat_lt (length fractions.denominators.now) (needed fractions))

-- Whether a denominator times the scale is 0, or 2^127 or more.
abbrev pub is_bad_denominator : ℕ → Wide → Bool
is_bad_denominator scale denominator = nat_eq (natural_of denominator * scale) 0 || nat_le (2 ^ 127) (natural_of denominator * scale)

-- Whether a numerator is -2^127.
abbrev pub is_bad_numerator : Wide → Bool
is_bad_numerator numerator = nat_le (2 ^ 127) (unsigned_abs (integer_of numerator))

-- The place of the first needed denominator that is out of range.
abbrev pub bad_denominator : FractionArrays → Option ℕ
bad_denominator fractions = position (is_bad_denominator (natural_of fractions.scale)) (take (needed fractions) fractions.denominators.now)

-- The place of the first numerator that is out of range.
abbrev pub bad_numerator : FractionArrays → Option ℕ
bad_numerator fractions = position is_bad_numerator fractions.numerators.now

-- The first fault, given the number of places of the output.
abbrev pub fraction_fault : FractionArrays → ℕ → Option FractionFault
fraction_fault fractions places =
    if (is_short fractions places) then (Some Short)
    else (option_or (option_map Denominator (bad_denominator fractions)) (option_map Numerator (bad_numerator fractions)))
