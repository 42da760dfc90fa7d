-- Common multiples, and fractions of whole numbers.
use Rattle.std.specs.Prelude.{ℕ, ℤ, pos, negsuc, neg_ℤ}
use Rattle.std.specs.Int.{◌∣◌}

-- m is the least common multiple of a and b: both divide it, and it divides every number that both divide
pub record IsLcm (a b m : ℕ) : Type 0 where
  pub first : a ∣ m
  pub second : b ∣ m
  pub least : (n : ℕ) → a ∣ n → b ∣ n → m ∣ n

-- the amount with the sign of the number
abbrev pub signed_like : ℤ → ℕ → ℤ
signed_like (pos n) amount = pos amount
signed_like (negsuc n) amount = neg_ℤ (pos amount)
