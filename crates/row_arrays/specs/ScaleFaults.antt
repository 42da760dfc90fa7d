-- The faults of numbers without numerators over their least common denominator.
use Rattle.std.specs.Prelude.{ℕ, ◌^◌, ◌<◌, ◌≤◌, ◌≡◌, ◌⊎◌, ℤ, unsigned_abs, List, length, get_or, take}
use Rattle.std.specs.List.{All}
use Rattle.nearest_float.specs.Binary.{Format}
use Rattle.nearest_float.specs.Faults.{IsRefused}
use Rattle.nearest_float.specs.declared.fault.FloatFault.{FloatFault}
use Rattle.nearest_float.specs.declared.fault.FloatFault.TheVariants.{TooWide}
use Rattle.row_arrays.specs.declared.number_fault.NumberFault.{NumberFault}
use Rattle.row_arrays.specs.Scale.{IsOver, IsNumerator, IsLeastScale, HasFraction}

-- The number at the place has no exact fraction, and every number before it has one.
pub record IsFirstRefused (f : Format) (bits : List ℕ) (place : ℕ) (fault : FloatFault) : Type 0 where
  pub inside : place < length bits
  pub refused : IsRefused f (get_or bits place 0) fault
  pub before : All (HasFraction f) (take place bits)

-- The numerator over the scale is 2^127 or more in amount.
pub record IsLarge (f : Format) (scale bits : ℕ) : Type 0 where
  pub numerator : ℤ
  pub over : IsOver f scale bits numerator
  pub large : 2 ^ 127 ≤ unsigned_abs numerator

-- The numerator over the scale is below 2^127 in amount.
pub record IsSmall (f : Format) (scale bits : ℕ) : Type 0 where
  pub numerator : ℤ
  pub is : IsNumerator f scale bits numerator

-- The numerator at the place is too large over the scale, and no numerator before it is.
pub record IsFirstLarge (f : Format) (bits : List ℕ) (scale place : ℕ) : Type 0 where
  pub inside : place < length bits
  pub large : IsLarge f scale (get_or bits place 0)
  pub before : All (IsSmall f scale) (take place bits)

-- The fault is `TooWide`, at the first numerator that is too large.
abbrev pub IsLargeFault : Format → List ℕ → ℕ → NumberFault → Type 0
IsLargeFault f bits scale x = IsFirstLarge f bits scale x.place × (x.fault ≡ TooWide)

-- Every number has an exact fraction, but one numerator over the least common denominator is too large.
pub record IsLargeOverAll (f : Format) (bits : List ℕ) (place : ℕ) (fault : FloatFault) : Type 0 where
  pub wide : fault ≡ TooWide
  pub scale : ℕ
  pub least : IsLeastScale f bits scale
  pub first : IsFirstLarge f bits scale place

-- A number has no exact fraction, or a numerator over the least common denominator is too large.
abbrev pub IsScaleFault : Format → List ℕ → NumberFault → Type 0
IsScaleFault f bits x = IsFirstRefused f bits x.place x.fault ⊎ IsLargeOverAll f bits x.place x.fault

-- The number at this place is refused.
pub record IsRefusedHere (f : Format) (bits place : ℕ) (x : NumberFault) : Type 0 where
  pub there : x.place ≡ place
  pub refused : IsRefused f bits x.fault
