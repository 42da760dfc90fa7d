-- Nearest sizes in a format without a greatest exponent, and fractions from 1 up to 2 over a wide denominator.
use Rattle.std.specs.Prelude.{ℕ, ◌+◌, ◌*◌, ◌%◌, ◌^◌, ◌<◌, ◌≤◌, ◌≡◌, ◌⊎◌, nat_lt, if◌then◌else◌}
use Rattle.std.specs.Int.{abs_diff}
use Rattle.nearest_float.specs.Binary.{units}

-- The distance of x / y from the units of a size, times y.
abbrev pub far : ℕ → ℕ → ℕ → ℕ → ℕ
far p x y size = abs_diff x (units p size * y)

-- No size has units nearer to x / y, and if another size is equally near, this one is even.
pub record IsNearestSize (p x y size : ℕ) : Type 0 where
  pub nearest : (other : ℕ) → far p x y size ≤ far p x y other
  pub even : (other : ℕ) → far p x y other ≡ far p x y size → (other ≡ size) ⊎ (size % 2 ≡ 0)

-- x / y is top * 2^doublings / bottom, with top / bottom from 1 up to 2 and bottom of 127 bits.
pub record IsScaled (x y top bottom doublings : ℕ) : Type 0 where
  pub wide : 2 ^ 126 ≤ bottom
  pub fits : bottom < 2 ^ 127
  pub above : bottom ≤ top
  pub below : top < 2 * bottom
  pub same : x * bottom ≡ top * 2 ^ doublings * y

-- The quotient, with rest / bottom rounded to nearest, ties to even.
abbrev pub rounded_half_even : ℕ → ℕ → ℕ → ℕ
rounded_half_even quotient rest bottom =
    if (nat_lt (2 * rest) bottom) then quotient else (if (nat_lt bottom (2 * rest)) then (quotient + 1) else (quotient + quotient % 2))
