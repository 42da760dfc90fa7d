-- How the reader keeps the digits of a number: those up to the last nonzero digit, and the number of zeros after it.
use Rattle.std.specs.Prelude.{ℕ, ◌≡◌, ◌+◌, ◌-◌, ◌*◌, ◌%◌, ◌^◌, ◌<◌, ◌≤◌, Option, MatchOption}
use Rattle.obj_text.specs.declared.decimal.Significant.{Significant}

-- The number that digits spell, followed by one more digit byte.
abbrev pub with_next_digit : ℕ → ℕ → ℕ
with_next_digit n b = n * 10 + (b - 48)

-- An amount and the zeros after it, as the reader keeps them. The last digit of the amount is not 0 unless the number is 0. The amount has
-- at most 37 digits.
pub record IsSignificant (amount zeros : ℕ) : Type 0 where
  pub ends : amount % 10 ≡ 0 → amount ≡ 0
  pub none : amount ≡ 0 → zeros ≡ 0
  pub short : amount < 10 ^ 37

-- The number has more than 37 digits from its first nonzero digit to its last.
pub record IsLong (n : ℕ) : Type 0 where
  pub amount : ℕ
  pub zeros : ℕ
  pub says : n ≡ amount * 10 ^ zeros
  pub ends : amount % 10 ≡ 0 → amount ≡ 0
  pub long : 10 ^ 37 ≤ amount

-- The number is kept with at most `most` zeros, or is too long for a mantissa.
abbrev pub KeepsNumber : Option Significant → ℕ → ℕ → Type 0
KeepsNumber kept number most =
    MatchOption kept (IsLong number) (λ n. IsSignificant n.amount n.zeros × (n.amount * 10 ^ n.zeros ≡ number) × (n.zeros ≤ most))
