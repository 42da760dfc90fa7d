-- The fraction field and the significand of a size, found by shifts.
use Rattle.std.proofs.Common.{◌≡◌, ℕ, ◌+◌, ◌-◌, ◌*◌, ◌/◌, ◌%◌, ◌^◌, ◌<◌, ◌≤◌, arith, pow_pos, pow_mono}
use Rattle.std.proofs.Math.Nat.{mul_comm}

-- The remainder after the highest bits.
pub fraction-is : (s p : ℕ) → s < 2 ^ 64 → s - s / 2 ^ p * 2 ^ p % 2 ^ 64 ≡ s % 2 ^ p
fraction-is s p fits = let turned = mul_comm (s / 2 ^ p) (2 ^ p) in omega (arith, turned)

pub fraction-below : (s p : ℕ) → s % 2 ^ p < 2 ^ p
fraction-below s p = let some : 0 < 2 ^ p = pow_pos p in omega arith

-- a significand has 53 bits
pub fraction-small : (s p : ℕ) → p ≤ 52 → s < 2 ^ 64 → s - s / 2 ^ p * 2 ^ p % 2 ^ 64 < 2 ^ 53
fraction-small s p short fits =
    let most : 2 ^ p ≤ 2 ^ 52 = pow_mono short in omega (arith, fraction-is s p fits, fraction-below s p, most)

pub hidden-small : (s p : ℕ) → p ≤ 52 → s < 2 ^ 64 → s - s / 2 ^ p * 2 ^ p % 2 ^ 64 + 1 * 2 ^ p % 2 ^ 64 < 2 ^ 53
hidden-small s p short fits =
    let most : 2 ^ p ≤ 2 ^ 52 = pow_mono short in omega (arith, fraction-is s p fits, fraction-below s p, most)
