-- The exact fraction of a number of a format.
use Rattle.std.specs.Prelude.{ℕ, ◌+◌, ◌^◌, ◌<◌, ◌≤◌, ◌≡◌, ◌⊎◌, ℤ, pos, ◌*ℤ◌, unsigned_abs}
use Rattle.std.specs.Int.{IsGcd}
use Rattle.nearest_float.specs.Binary.{Format, unit_bits, IsFinite, value_of}

-- num / den is value / one in lowest terms, and both terms fit.
pub record AreLowestTerms (value : ℤ) (one : ℕ) (num : ℤ) (den : ℕ) : Type 0 where
  pub positive : 0 < den
  pub same : num *ℤ pos one ≡ value *ℤ pos den
  pub lowest : IsGcd (unsigned_abs num) den 1
  pub num_fits : unsigned_abs num < 2 ^ 127
  pub den_fits : den ≤ 2 ^ 126

-- No fraction equal to value / one has terms that fit.
abbrev pub HasNoTerms : ℤ → ℕ → Type 0
HasNoTerms value one = (num : ℤ) (den : ℕ) → 0 < den → num *ℤ pos one ≡ value *ℤ pos den → unsigned_abs num < 2 ^ 127 → den ≤ 2 ^ 126 → ⊥

-- num / den is the value of the bits, in lowest terms.
pub record IsExact (f : Format) (bits : ℕ) (num : ℤ) (den : ℕ) : Type 0 where
  pub finite : IsFinite f bits
  pub terms : AreLowestTerms (value_of f bits) (2 ^ unit_bits f) num den

-- No fraction equal to the value of the bits has terms that fit.
pub record IsTooWide (f : Format) (bits : ℕ) : Type 0 where
  pub finite : IsFinite f bits
  pub none : HasNoTerms (value_of f bits) (2 ^ unit_bits f)

-- `back` has the same bits, except that -0 becomes 0.
abbrev pub IsReadBack : Format → ℕ → ℕ → Type 0
IsReadBack f bits back = (back ≡ bits) ⊎ ((bits ≡ 2 ^ (f.exponent_bits + f.fraction_bits)) × (back ≡ 0))
