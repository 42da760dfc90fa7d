-- Formats of binary numbers, in whole numbers: the fields of the bits, and the value in units.
use Rattle.std.specs.Prelude.{ℕ, ◌+◌, ◌-◌, ◌*◌, ◌/◌, ◌%◌, ◌^◌, ◌<◌, ℤ, pos, neg_ℤ, nat_eq, if◌then◌else◌}

-- A number has one sign bit, then the exponent field, then the fraction field.
pub record Format : Type 0 where
  pub fraction_bits : ℕ
  pub exponent_bits : ℕ

-- The format of a double.
abbrev pub binary64 : Format
binary64 = record { fraction_bits = 52; exponent_bits = 11 }

-- The format of a float.
abbrev pub binary32 : Format
binary32 = record { fraction_bits = 23; exponent_bits = 8 }

-- Every finite number is a whole number of units. A unit is 1 / 2^unit_bits: 2^-1074 for a double, 2^-149 for a float.
abbrev pub unit_bits : Format → ℕ
unit_bits f = 2 ^ (f.exponent_bits - 1) - 2 + f.fraction_bits

-- The size: the bits without the sign.
abbrev pub size_of : Format → ℕ → ℕ
size_of f bits = bits % 2 ^ (f.exponent_bits + f.fraction_bits)

-- The sign: 0, or 1 for a negative number.
abbrev pub sign_of : Format → ℕ → ℕ
sign_of f bits = bits / 2 ^ (f.exponent_bits + f.fraction_bits)

-- The size of infinity, whose exponent field is all ones. Greater sizes are NaN.
abbrev pub infinity : Format → ℕ
infinity f = (2 ^ f.exponent_bits - 1) * 2 ^ f.fraction_bits

-- The number is finite.
abbrev pub IsFinite : Format → ℕ → Type 0
IsFinite f bits = size_of f bits < infinity f

-- The significand, given p bits of fraction field. A number with exponent field 0 has no hidden bit.
abbrev pub significand_at : ℕ → ℕ → ℕ → ℕ
significand_at p exponent fraction = if (nat_eq exponent 0) then fraction else (2 ^ p + fraction)

-- How often the significand is doubled, given the exponent field.
abbrev pub doublings_at : ℕ → ℕ
doublings_at exponent = if (nat_eq exponent 0) then 0 else (exponent - 1)

-- The significand of a size, given p bits of fraction field.
abbrev pub significand : ℕ → ℕ → ℕ
significand p size = significand_at p (size / 2 ^ p) (size % 2 ^ p)

-- How often the significand of a size is doubled, given p bits of fraction field.
abbrev pub doublings : ℕ → ℕ → ℕ
doublings p size = doublings_at (size / 2 ^ p)

-- The units of a size, given p bits of fraction field.
abbrev pub units : ℕ → ℕ → ℕ
units p size = significand p size * 2 ^ doublings p size

-- The amount, negative if the sign is 1.
abbrev pub signed_by : ℕ → ℕ → ℤ
signed_by sign amount = if (nat_eq sign 0) then (pos amount) else (neg_ℤ (pos amount))

-- The value of a number, in units.
abbrev pub value_of : Format → ℕ → ℤ
value_of f bits = signed_by (sign_of f bits) (units f.fraction_bits (size_of f bits))
