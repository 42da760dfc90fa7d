-- Texts of signs.
use Rattle.std.proofs.Common.{◌≡◌, ◌≢◌, ℕ, zero, suc, ◌+◌, ◌*◌, ◌^◌, ◌<◌, ◌≤◌, ℤ, arith, lit<, refl}
use Rattle.std.proofs.Math.Nat.{one-le-pow}
use Rattle.subdiv_model.specs.NumberText.{sign_text, rounded_sign}

signed-some : (num : ℤ) (n : ℕ) → 0 < n → rounded_sign num n ≡ sign_text num
signed-some num zero some = absurd (omega arith)
signed-some num (suc n) some = refl

whole-some : (whole units d : ℕ) → whole ≢ 0 → 0 < whole * 10 ^ d + units
whole-some zero units d some = absurd (some refl)
whole-some (suc whole) units d some = let one : 1 ≤ 10 ^ d = one-le-pow d 10 (lit< tt) in omega arith

-- a number with a whole part, or with decimals, keeps its sign
pub signed-whole : (num : ℤ) (whole units d : ℕ) → whole ≢ 0 → rounded_sign num (whole * 10 ^ d + units) ≡ sign_text num
signed-whole num whole units d some = signed-some num _ (whole-some whole units d some)

pub signed-units : (num : ℤ) (whole units d : ℕ) → units ≢ 0 → rounded_sign num (whole * 10 ^ d + units) ≡ sign_text num
signed-units num whole units d some = signed-some num _ (omega arith)
