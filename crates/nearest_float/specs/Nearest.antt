-- The number of a format nearest to a fraction.
use Rattle.std.specs.Prelude.{ℕ, ◌+◌, ◌-◌, ◌*◌, ◌%◌, ◌^◌, ◌≤◌, ◌≡◌, ◌≢◌, ◌↔◌, ℤ, pos, ◌*ℤ◌, ◌-ℤ◌, unsigned_abs, int_lt, if◌then◌else◌}
use Rattle.nearest_float.specs.Binary.{Format, unit_bits, size_of, sign_of, infinity, IsFinite, significand, units, value_of}

-- The distance of a number from num / den, as a numerator over den * 2^unit_bits.
abbrev pub distance : Format → ℤ → ℕ → ℕ → ℕ
distance f num den bits = unsigned_abs (num *ℤ pos (2 ^ unit_bits f) -ℤ value_of f bits *ℤ pos den)

-- No finite number is nearer, and if another is equally near, the significand of this one is even.
pub record IsNearestFinite (f : Format) (num : ℤ) (den bits : ℕ) : Type 0 where
  pub nearest : (other : ℕ) → IsFinite f other → distance f num den bits ≤ distance f num den other
  pub even : (other : ℕ) → IsFinite f other → value_of f other ≢ value_of f bits → distance f num den other ≡ distance f num den bits
      → significand f.fraction_bits (size_of f bits) % 2 ≡ 0

-- Twice the midpoint between the greatest finite number and the next power of two, in units.
abbrev pub twice_last_half : Format → ℕ
twice_last_half f = units f.fraction_bits (infinity f - 1) + units f.fraction_bits (infinity f)

-- The fraction is at least halfway from the greatest finite number to the next power of two.
abbrev pub IsPastFinite : Format → ℤ → ℕ → Type 0
IsPastFinite f num den = twice_last_half f * den ≤ 2 * (unsigned_abs num * 2 ^ unit_bits f)

-- The bits are those of the number nearest to num / den, ties to even. Infinity is nearest exactly past the finite numbers, and 0 has no
-- sign.
pub record IsNearest (f : Format) (num : ℤ) (den bits : ℕ) : Type 0 where
  pub sign : sign_of f bits ≡ if (int_lt num (pos 0)) then 1 else 0
  pub finite : IsFinite f bits → IsNearestFinite f num den bits
  pub infinite : size_of f bits ≡ infinity f ↔ IsPastFinite f num den
  pub number : size_of f bits ≤ infinity f
