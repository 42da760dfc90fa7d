-- Lowest terms of an amount.
use Rattle.std.specs.Prelude.{ℕ, ◌*◌, ◌^◌, ◌<◌, ◌≤◌, ◌≡◌, Option, Some, None}
use Rattle.std.specs.Int.{IsGcd}

-- num / den is amount / one in lowest terms, and both terms fit.
pub record AreLowest (amount one num den : ℕ) : Type 0 where
  pub positive : 0 < den
  pub same : num * one ≡ amount * den
  pub lowest : IsGcd num den 1
  pub num_fits : num < 2 ^ 127
  pub den_fits : den ≤ 2 ^ 126

-- No fraction equal to amount / one has terms that fit.
abbrev pub HasNone : ℕ → ℕ → Type 0
HasNone amount one = (num den : ℕ) → 0 < den → num * one ≡ amount * den → num < 2 ^ 127 → den ≤ 2 ^ 126 → ⊥

-- The lowest terms of amount / one, or `None` if no terms fit.
abbrev pub AreTermsOf : ℕ → ℕ → Option (ℕ × ℕ) → Type 0
AreTermsOf amount one None = HasNone amount one
AreTermsOf amount one (Some (num, den)) = AreLowest amount one num den
