-- The natural number nearest to a product, and its range.
use Rattle.std.specs.Prelude.{ℕ, ◌*◌, ◌%◌, ◌^◌, ◌<◌, ◌≤◌, ◌≡◌, ℤ, unsigned_abs, not, nat_eq, Option, MatchOption}
use Rattle.std.specs.Int.{abs_diff}
use Rattle.row_arrays.specs.declared.amount.Rounded.{Rounded}
use Rattle.row_arrays.specs.declared.amount.GridNumber.{GridNumber}
use Rattle.row_arrays.specs.Nearest.{IsNearestMultiple, is_off}

-- n / many is the multiple of 1 / many nearest to amount / one, ties to even.
pub record IsNearestAmount (amount one many n : ℕ) : Type 0 where
  pub near : 2 * abs_diff (n * one) (amount * many) ≤ one
  pub even : 2 * abs_diff (n * one) (amount * many) ≡ one → n % 2 ≡ 0

-- The nearest amount is below 2^127, and `changed` reports whether rounding changed it.
pub record IsRounding (amount one many : ℕ) (r : Rounded) : Type 0 where
  pub nearest : IsNearestAmount amount one many r.amount
  pub fits : r.amount < 2 ^ 127
  pub changed : r.changed ≡ not (nat_eq (abs_diff (r.amount * one) (amount * many)) 0)

-- The nearest amount is 2^127 or more.
pub record IsFarAmount (amount one many : ℕ) : Type 0 where
  pub n : ℕ
  pub nearest : IsNearestAmount amount one many n
  pub large : 2 ^ 127 ≤ n

-- The nearest amount, or `None` if it is 2^127 or more.
abbrev pub IsRoundingOf : ℕ → ℕ → ℕ → Option Rounded → Type 0
IsRoundingOf amount one many result = MatchOption result (IsFarAmount amount one many) (IsRounding amount one many)

-- The nearest numerator is below 2^127 in amount, and `changed` reports whether rounding changed the value.
pub record IsGridNumber (value : ℤ) (one many : ℕ) (x : GridNumber) : Type 0 where
  pub nearest : IsNearestMultiple value one many x.numerator
  pub fits : unsigned_abs x.numerator < 2 ^ 127
  pub changed : x.changed ≡ is_off value one many x.numerator

-- The nearest numerator is 2^127 or more in amount.
pub record IsFarValue (value : ℤ) (one many : ℕ) : Type 0 where
  pub numerator : ℤ
  pub nearest : IsNearestMultiple value one many numerator
  pub large : 2 ^ 127 ≤ unsigned_abs numerator

-- The nearest numerator, or `None` if it is 2^127 or more in amount.
abbrev pub IsGridNumberOf : ℤ → ℕ → ℕ → Option GridNumber → Type 0
IsGridNumberOf value one many result = MatchOption result (IsFarValue value one many) (IsGridNumber value one many)
