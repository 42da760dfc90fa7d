-- Lowest terms, by a common divisor and by shifts.
use Rattle.std.proofs.Common.{◌≡◌, ℕ, zero, suc, ◌*◌, ◌/◌, ◌%◌, ◌^◌, ◌<◌, ◌≤◌, min, arith, lit<, refl, ap, sym, ◌∙◌, subst}
use Rattle.std.specs.Int.{IsGcd, trailing_zeros, w128}
use Rattle.std.specs.Int.Count.{trailing_of_zero}
use Rattle.std.proofs.lemmas.Nat.Bits.{bit_at-trailing_zeros}
use Rattle.std.proofs.lemmas.Nat.Gcd.{same_from_IsGcd, IsGcd-from_zero, IsGcd-swap}
use Rattle.std.proofs.Math.Nat.{one-mul, pow-le-pow_right, min-eq_left, min-le_left, pos_of_dvd_of_pos}
use Rattle.subdiv_model.specs.Fractions.{gcd_of, lowest}
use Rattle.number_laws.proofs.FractionLemmas.{gcd_of-is}
use Rattle.number_laws.proofs.CoprimeLemmas.{coprime-one}
use Rattle.ratio128.proofs.OddLemmas.{gcd-from-odds, odd-part, odd-part-whole}

-- a common divisor above 0, of a number above 0
pub divisor-positive : (a b g : ℕ) → 0 < b → IsGcd a b g → 0 < g
divisor-positive a b g some is = pos_of_dvd_of_pos is.1 some

-- both divided by the greatest common divisor
pub lowest-by : (a b g : ℕ) → IsGcd a b g → (a / g, b / g) ≡ lowest (a, b)
lowest-by a b g is = ap (λ d. (a / d, b / d)) (same_from_IsGcd a b g (gcd_of a b) is (gcd_of-is a b))

-- the twos of a power of two are the power
power-whole : (d : ℕ) → 0 < d → d < 2 ^ 128 → d / 2 ^ trailing_zeros w128 d ≡ 1 → 1 * 2 ^ trailing_zeros w128 d ≡ d
power-whole d some fits power = ap (λ q. q * 2 ^ trailing_zeros w128 d) (sym power) ∙ odd-part-whole d some fits

-- the twos that a number and a power of two share are their greatest common divisor
power-gcd : (a d : ℕ) → a < 2 ^ 128 → 0 < d → d < 2 ^ 128 → d / 2 ^ trailing_zeros w128 d ≡ 1 →
    IsGcd a d (2 ^ min (trailing_zeros w128 d) (trailing_zeros w128 a))
power-gcd zero d small some fits power =
    let e : min (trailing_zeros w128 d) (trailing_zeros w128 0) ≡ trailing_zeros w128 d =
    ap (λ n. min (trailing_zeros w128 d) n) (trailing_of_zero 128) ∙ min-eq_left (omega (arith, (bit_at-trailing_zeros w128 d some fits).0)) in
    let whole : d ≡ 2 ^ min (trailing_zeros w128 d) (trailing_zeros w128 0) =
    sym (power-whole d some fits power) ∙ one-mul (2 ^ trailing_zeros w128 d) ∙ ap (λ n. 2 ^ n) (sym e) in
    subst (λ (g : ℕ). IsGcd 0 d g) whole (IsGcd-swap d 0 d (IsGcd-from_zero d 0 (omega arith)))
power-gcd (suc a) d small some fits power =
    let i = trailing_zeros w128 d in
    let j = trailing_zeros w128 (suc a) in
    let p = suc a / 2 ^ j in
    let odd = odd-part (suc a) (omega arith) small in
    let power-of-d = power-whole d some fits power in
    let is = gcd-from-odds d (suc a) 1 p i j 1 (min i j) some fits refl odd power-of-d (odd-part-whole (suc a) (omega arith) small)
    (IsGcd-swap p 1 1 (coprime-one p)) refl in
    let less : 2 ^ min i j ≤ 2 ^ i = pow-le-pow_right (lit< tt) (min-le_left i j) in
    let same : 1 * 2 ^ min i j % 2 ^ 128 ≡ 2 ^ min i j = omega (arith, less, power-of-d, fits) in
    IsGcd-swap d (suc a) (2 ^ min i j) (subst (λ (g : ℕ). IsGcd d (suc a) g) same is)

-- and the terms without them are the lowest
pub lowest-shifted : (a d : ℕ) → a < 2 ^ 128 → 0 < d → d < 2 ^ 128 → d / 2 ^ trailing_zeros w128 d ≡ 1 →
    (a / 2 ^ min (trailing_zeros w128 d) (trailing_zeros w128 a), d / 2 ^ min (trailing_zeros w128 d) (trailing_zeros w128 a)) ≡ lowest (a, d)
lowest-shifted a d small some fits power = lowest-by a d _ (power-gcd a d small some fits power)
