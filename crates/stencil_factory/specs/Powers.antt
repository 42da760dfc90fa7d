-- Powers of two among denominators.
use Rattle.std.specs.Prelude.{ℕ, ◌≡◌, ◌-◌, ◌/◌, ◌^◌, ◌<◌, ◌≤◌, max}
use Rattle.std.specs.Int.{trailing_zeros, w64}
use Rattle.child_masks.specs.Survey.{within_bound}

-- The number is a power of two.
pub record IsPower (n : ℕ) : Type 0 where
  pub exponent : ℕ
  pub is : n ≡ 2 ^ exponent

-- The number is a power of two of 64 bits. Without the zeros below its lowest bit it is 1.
pub record IsWordPower (n : ℕ) : Type 0 where
  pub power : IsPower n
  pub fits : n ≤ 2 ^ 64 - 1
  pub shifted : n / 2 ^ trailing_zeros w64 n ≡ 1

-- The second number is a power of two, and `greater` is the greater of both.
pub record IsGreaterPower (first second greater : ℕ) : Type 0 where
  pub some : 0 < first
  pub power : IsPower second
  pub is : greater ≡ max first second

-- The number is a power of two. It is `multiple`, or that is above 2^126 - 1.
pub record IsPowerWithin (n multiple : ℕ) : Type 0 where
  pub power : IsPower n
  pub is : n ≡ within_bound multiple
