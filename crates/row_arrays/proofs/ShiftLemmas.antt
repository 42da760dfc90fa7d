-- Numbers shifted by bits.
use Rattle.std.proofs.Common.{◌≡◌, ℕ, ◌+◌, ◌-◌, ◌*◌, ◌/◌, ◌%◌, ◌^◌, ◌<◌, ◌≤◌, arith, pow_pos, pow_mono}
use Rattle.std.proofs.lemmas.Nat.{pow-add}
use Rattle.std.proofs.Math.Nat.{mul_assoc, mul_comm, mul-le-mul_right, mul-lt-mul_of_pos_right}

pub whole-again : (s p : ℕ) → s / 2 ^ p * 2 ^ p + s % 2 ^ p ≡ s
whole-again s p = let turned = mul_comm (s / 2 ^ p) (2 ^ p) in omega (arith, turned)

pub large-up : (s k e : ℕ) → 2 ^ k ≤ s → 126 < k + e → 2 ^ 127 ≤ s * 2 ^ e
large-up s k e from many =
    let large : 2 ^ 127 ≤ 2 ^ (k + e) = pow_mono {i = 127} (omega (arith, many)) in
    let least : 2 ^ k * 2 ^ e ≤ s * 2 ^ e = mul-le-mul_right (2 ^ e) from in
    let joined : 2 ^ (k + e) ≡ 2 ^ k * 2 ^ e = pow-add 2 k e in
    omega (arith, large, least, joined)

pub small-up : (s k e : ℕ) → s < 2 * 2 ^ k → k + e ≤ 126 → s * 2 ^ e < 2 ^ 127
small-up s k e to few =
    let below : s * 2 ^ e < 2 * 2 ^ k * 2 ^ e = mul-lt-mul_of_pos_right to (pow_pos e) in
    let split : 2 * 2 ^ k * 2 ^ e ≡ 2 * (2 ^ k * 2 ^ e) = mul_assoc 2 (2 ^ k) (2 ^ e) in
    let joined : 2 ^ (k + e) ≡ 2 ^ k * 2 ^ e = pow-add 2 k e in
    let within : 2 ^ (k + e) ≤ 2 ^ 126 = pow_mono few in
    omega (arith, below, split, joined, within)

pub one-up : (p : ℕ) → p ≤ 63 → 1 * 2 ^ p % 2 ^ 64 ≡ 2 ^ p
one-up p few = let most : 2 ^ p ≤ 2 ^ 63 = pow_mono few in omega (arith, most)
