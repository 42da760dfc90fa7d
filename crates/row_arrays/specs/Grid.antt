-- Numbers of a format rounded to multiples of 1 / 2^grid_bits.
use Rattle.std.specs.Prelude.{ℕ, ◌+◌, ◌^◌, ◌<◌, ◌≡◌, ℤ, unsigned_abs, List, [], ◌∷◌, length, get_or, take, if◌then◌else◌}
use Rattle.std.specs.List.{All, AllZip}
use Rattle.nearest_float.specs.Binary.{Format, unit_bits, value_of, IsFinite}
use Rattle.nearest_float.specs.declared.fault.FloatFault.{FloatFault}
use Rattle.nearest_float.specs.declared.fault.FloatFault.TheVariants.{NotFinite, TooWide}
use Rattle.row_arrays.specs.declared.number_fault.NumberFault.{NumberFault}
use Rattle.row_arrays.specs.Nearest.{IsNearestMultiple, is_off}
use Rattle.row_arrays.specs.Amounts.{IsGridNumber, IsFarValue}
use Rattle.row_arrays.specs.declared.amount.GridNumber.{GridNumber}

-- The bits are finite, and the numerator nearest to their value is below 2^127 in amount.
pub record IsRounded (f : Format) (grid_bits bits : ℕ) (numerator : ℤ) : Type 0 where
  pub finite : IsFinite f bits
  pub nearest : IsNearestMultiple (value_of f bits) (2 ^ unit_bits f) (2 ^ grid_bits) numerator
  pub fits : unsigned_abs numerator < 2 ^ 127

-- How many numbers differ from their rounded values.
abbrev pub changes : Format → ℕ → List ℕ → List ℤ → ℕ
changes f grid_bits [] ns = 0
changes f grid_bits (b ∷ bs) [] = 0
changes f grid_bits (b ∷ bs) (n ∷ ns) = (if (is_off (value_of f b) (2 ^ unit_bits f) (2 ^ grid_bits) n) then 1 else 0) + changes f grid_bits bs ns

-- Every number is rounded, and `changed` counts those that rounding changed.
pub record AreRounded (f : Format) (grid_bits : ℕ) (bits : List ℕ) (changed : ℕ) (numerators : List ℤ) : Type 0 where
  pub rounded : AllZip (IsRounded f grid_bits) bits numerators
  pub count : changed ≡ changes f grid_bits bits numerators

-- The number is finite, but its nearest numerator is 2^127 or more in amount.
pub record IsFar (f : Format) (grid_bits bits : ℕ) : Type 0 where
  pub finite : IsFinite f bits
  pub far : IsFarValue (value_of f bits) (2 ^ unit_bits f) (2 ^ grid_bits)

-- What each fault claims about the refused bits.
abbrev pub IsRoundRefused : Format → ℕ → ℕ → FloatFault → Type 0
IsRoundRefused f grid_bits bits NotFinite = IsFinite f bits → ⊥
IsRoundRefused f grid_bits bits TooWide = IsFar f grid_bits bits

-- The number has a rounded numerator that fits.
pub record HasRounded (f : Format) (grid_bits bits : ℕ) : Type 0 where
  pub numerator : ℤ
  pub rounded : IsRounded f grid_bits bits numerator

-- The number at the place is refused, and every number before it is rounded.
pub record IsFirstUnrounded (f : Format) (grid_bits : ℕ) (bits : List ℕ) (place : ℕ) (fault : FloatFault) : Type 0 where
  pub inside : place < length bits
  pub refused : IsRoundRefused f grid_bits (get_or bits place 0) fault
  pub before : All (HasRounded f grid_bits) (take place bits)

-- The place and the fault of the first number that is refused.
abbrev pub IsRoundFault : Format → ℕ → List ℕ → NumberFault → Type 0
IsRoundFault f grid_bits bits x = IsFirstUnrounded f grid_bits bits x.place x.fault

-- The result of one step: the rounded number, and whether rounding changed it.
pub record IsRoundedTo (f : Format) (grid_bits bits : ℕ) (x : GridNumber) : Type 0 where
  pub finite : IsFinite f bits
  pub number : IsGridNumber (value_of f bits) (2 ^ unit_bits f) (2 ^ grid_bits) x

-- The number at this place is refused.
pub record IsUnroundedHere (f : Format) (grid_bits bits place : ℕ) (x : NumberFault) : Type 0 where
  pub there : x.place ≡ place
  pub refused : IsRoundRefused f grid_bits bits x.fault
