-- The integer nearest to a product.
use Rattle.std.specs.Prelude.{ℕ, ◌*◌, ◌%◌, ◌≤◌, ◌≡◌, ℤ, pos, ◌*ℤ◌, ◌-ℤ◌, unsigned_abs, Bool, not, nat_eq}

-- The distance between numerator / many and value / one, as a numerator over many * one.
abbrev pub off_by : ℤ → ℕ → ℕ → ℤ → ℕ
off_by value one many numerator = unsigned_abs (numerator *ℤ pos one -ℤ value *ℤ pos many)

-- numerator / many is the multiple of 1 / many nearest to value / one, ties to even.
pub record IsNearestMultiple (value : ℤ) (one many : ℕ) (numerator : ℤ) : Type 0 where
  pub near : 2 * off_by value one many numerator ≤ one
  pub even : 2 * off_by value one many numerator ≡ one → unsigned_abs numerator % 2 ≡ 0

-- Whether numerator / many differs from value / one.
abbrev pub is_off : ℤ → ℕ → ℕ → ℤ → Bool
is_off value one many numerator = not (nat_eq (off_by value one many numerator) 0)
