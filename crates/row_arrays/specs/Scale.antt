-- Numbers of a format as numerators over one denominator, the scale.
use Rattle.std.specs.Prelude.{ℕ, ◌^◌, ◌<◌, ◌≤◌, ◌≡◌, ℤ, pos, ◌*ℤ◌, unsigned_abs, List, max}
use Rattle.std.specs.List.{All, AllZip}
use Rattle.nearest_float.specs.Binary.{Format, unit_bits, value_of}
use Rattle.nearest_float.specs.Exact.{IsExact}

-- numerator / scale is the value of the bits.
pub record IsOver (f : Format) (scale bits : ℕ) (numerator : ℤ) : Type 0 where
  pub same : numerator *ℤ pos (2 ^ unit_bits f) ≡ value_of f bits *ℤ pos scale

-- The value of the bits has a whole numerator over the scale.
pub record HasNumerator (f : Format) (scale bits : ℕ) : Type 0 where
  pub numerator : ℤ
  pub over : IsOver f scale bits numerator

-- The bits have an exact fraction whose terms fit.
pub record HasFraction (f : Format) (bits : ℕ) : Type 0 where
  pub num : ℤ
  pub den : ℕ
  pub exact : IsExact f bits num den

-- The number is a power of two.
pub record IsPowerOfTwo (n : ℕ) : Type 0 where
  pub exponent : ℕ
  pub is : n ≡ 2 ^ exponent

-- The scale is the least common denominator of numbers that all have exact fractions. It is 1 for an empty list.
pub record IsLeastScale (f : Format) (bits : List ℕ) (scale : ℕ) : Type 0 where
  pub exact : All (HasFraction f) bits
  pub positive : 0 < scale
  pub power : IsPowerOfTwo scale
  pub fits : scale ≤ 2 ^ 126
  pub common : All (HasNumerator f scale) bits
  pub least : (other : ℕ) → 0 < other → All (HasNumerator f other) bits → scale ≤ other

-- The numerator over the scale is below 2^127 in amount.
pub record IsNumerator (f : Format) (scale bits : ℕ) (numerator : ℤ) : Type 0 where
  pub over : IsOver f scale bits numerator
  pub fits : unsigned_abs numerator < 2 ^ 127

-- The numbers are written over their least common denominator.
pub record AreScaled (f : Format) (bits : List ℕ) (scale : ℕ) (numerators : List ℤ) : Type 0 where
  pub least : IsLeastScale f bits scale
  pub numerators_of : AllZip (IsNumerator f scale) bits numerators

-- `next` is the greater of a scale and the denominator of the bits.
pub record IsScaleWith (f : Format) (bits scale next : ℕ) : Type 0 where
  pub num : ℤ
  pub den : ℕ
  pub exact : IsExact f bits num den
  pub greater : next ≡ max scale den
