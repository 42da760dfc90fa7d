-- What each fault claims about the refused bits.
use Rattle.std.specs.Prelude.{ℕ, ℤ, Result, MatchResult}
use Rattle.ratio128.specs.declared.divisor.Frac.{Frac}
use Rattle.nearest_float.specs.declared.fault.FloatFault.{FloatFault}
use Rattle.nearest_float.specs.declared.fault.FloatFault.TheVariants.{NotFinite, TooWide}
use Rattle.nearest_float.specs.Binary.{Format, IsFinite}
use Rattle.nearest_float.specs.Exact.{IsTooWide, AreLowestTerms, HasNoTerms}

-- `NotFinite`: the bits are not those of a finite number. `TooWide`: no exact fraction has terms that fit.
abbrev pub IsRefused : Format → ℕ → FloatFault → Type 0
IsRefused f bits NotFinite = IsFinite f bits → ⊥
IsRefused f bits TooWide = IsTooWide f bits

-- The fault of a value without terms that fit.
abbrev pub IsWide : ℤ → ℕ → FloatFault → Type 0
IsWide value one NotFinite = ⊥
IsWide value one TooWide = HasNoTerms value one

-- The lowest terms of value / one, or the fault that no terms fit.
abbrev pub IsReading : ℤ → ℕ → Result Frac FloatFault → Type 0
IsReading value one result = MatchResult result (λ x. AreLowestTerms value one x.num x.den) (λ fault. IsWide value one fault)
