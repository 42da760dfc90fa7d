-- Divisors of powers of two.
use Rattle.std.proofs.Common.{◌≡◌, ◌⊎◌, ℕ, zero, suc, ◌+◌, ◌-◌, ◌*◌, ◌/◌, ◌%◌, ◌^◌, ◌<◌, ◌≤◌, inl, inr, max, arith, ap, sym, ◌∙◌, subst, pow_pos, pow_mono}
use Rattle.std.specs.Int.{◌∣◌}
use Rattle.std.proofs.lemmas.Bool.{cases_lt, cases_eq}
use Rattle.std.proofs.lemmas.Nat.{pow-add}
use Rattle.std.proofs.lemmas.Nat.Gcd.{IsGcd-swap, le_of_dvd, mod-eq-zero_of_dvd}
use Rattle.std.proofs.Math.Nat.{mul_assoc, mul_comm, dvd-mul_left, eq_of_mul-eq-mul_right}
use Rattle.number_laws.proofs.CoprimeLemmas.{coprime-two}
use Rattle.nearest_float.proofs.TermLemmas.{coprime-divides}
use Rattle.row_arrays.specs.Scale.{IsPowerOfTwo}

pow-next : (n : ℕ) → 2 ^ suc n ≡ 2 ^ n * 2
pow-next n = ap (λ k. 2 ^ k) (omega arith) ∙ pow-add 2 n 1

half-divides : (d n : ℕ) → d % 2 ≡ 0 → d ∣ 2 ^ n * 2 → d / 2 ∣ 2 ^ n
half-divides d n even divides =
    let none : 2 ^ n * 2 % d ≡ 0 = mod-eq-zero_of_dvd d divides in
    let c = 2 ^ n * 2 / d in
    let whole : c * d ≡ 2 ^ n * 2 = mul_comm c d ∙ omega (arith, none) in
    let halves : d ≡ d / 2 * 2 = omega (arith, even) in
    let twice : c * (d / 2) * 2 ≡ 2 ^ n * 2 = mul_assoc c (d / 2) 2 ∙ ap (λ m. c * m) (sym halves) ∙ whole in
    let once : c * (d / 2) ≡ 2 ^ n = eq_of_mul-eq-mul_right 2 (omega arith) _ _ twice in
    let P : ℕ → Type 0 = λ m. d / 2 ∣ m in
    subst P once (dvd-mul_left (d / 2) c)

odd-divides : (d n : ℕ) → (d % 2 ≡ 0 → ⊥) → d ∣ 2 ^ n * 2 → d ∣ 2 ^ n
odd-divides d n odd divides =
    let P : ℕ → Type 0 = λ m. d ∣ m in
    coprime-divides 2 d (2 ^ n) (pow_pos n) (IsGcd-swap d 2 1 (coprime-two d odd)) (subst P (mul_comm (2 ^ n) 2) divides)

next : (n d : ℕ) → d ∣ 2 ^ suc n → d ∣ 2 ^ n * 2
next n d divides = let P : ℕ → Type 0 = λ m. d ∣ m in subst P (pow-next n) divides

doubled : (d : ℕ) → d % 2 ≡ 0 → IsPowerOfTwo (d / 2) → IsPowerOfTwo d
doubled d even half =
    let halves : d ≡ d / 2 * 2 = omega (arith, even) in
    record { exponent = suc half.exponent; is = halves ∙ ap (λ m. m * 2) half.is ∙ sym (pow-next half.exponent) }

by-parity : (n d : ℕ) → d ∣ 2 ^ n * 2 → (d % 2 ≡ 0) ⊎ (d % 2 ≡ 0 → ⊥) → ((e : ℕ) → e ∣ 2 ^ n → IsPowerOfTwo e) → IsPowerOfTwo d
by-parity n d there (inl even) less = doubled d even (less (d / 2) (half-divides d n even there))
by-parity n d there (inr odd) less = less d (odd-divides d n odd there)

-- a divisor of a power of two is one
pub power-divisor : (n d : ℕ) → d ∣ 2 ^ n → IsPowerOfTwo d
power-divisor zero d divides =
    let one : 2 ^ 0 ≡ 1 = pow-add-none in
    let P : ℕ → Type 0 = λ m. d ∣ m in
    let there : d ∣ 1 = subst P one divides in
    let most : d ≤ 1 = le_of_dvd (omega arith) there in
    let none : 1 % d ≡ 0 = mod-eq-zero_of_dvd d there in
    record { exponent = 0; is = only d most none ∙ sym one }
  where
    pow-add-none : 2 ^ 0 ≡ 1
    pow-add-none = omega arith

    only : (d : ℕ) → d ≤ 1 → 1 % d ≡ 0 → d ≡ 1
    only zero most none = absurd (omega (arith, none))
    only (suc k) most none = omega (arith, most)
power-divisor (suc n) d divides = by-parity n d (next n d divides) (cases_eq (d % 2) 0) (λ e. power-divisor n e)

-- of two powers of two the lesser divides the greater
pub power-divides : (a b : ℕ) → IsPowerOfTwo a → IsPowerOfTwo b → a ≤ b → a ∣ b
power-divides a b first second less = by-order (cases_lt second.exponent first.exponent)
  where
    by-order : (second.exponent < first.exponent) ⊎ (first.exponent ≤ second.exponent) → a ∣ b
    by-order (inl more) =
        let large : 2 ^ (second.exponent + 1) ≤ 2 ^ first.exponent = pow_mono (omega (arith, more)) in
        let next : 2 ^ (second.exponent + 1) ≡ 2 ^ second.exponent * 2 = pow-add 2 second.exponent 1 in
        let some : 0 < 2 ^ second.exponent = pow_pos second.exponent in
        absurd (omega (arith, large, next, some, first.is, second.is, less))
    by-order (inr few) =
        let rest = second.exponent - first.exponent in
        let sum : second.exponent ≡ rest + first.exponent = omega arith in
        let whole : 2 ^ rest * a ≡ b = ap (λ m. 2 ^ rest * m) first.is ∙ sym (pow-add 2 rest first.exponent) ∙ ap (λ m. 2 ^ m) (sym sum) ∙ sym second.is in
        let P : ℕ → Type 0 = λ m. a ∣ m in
        subst P whole (dvd-mul_left a (2 ^ rest))

pub max-power : (a b : ℕ) → IsPowerOfTwo a → IsPowerOfTwo b → IsPowerOfTwo (max a b)
max-power a b first second = by-order (cases_lt a b)
  where
    by-order : (a < b) ⊎ (b ≤ a) → IsPowerOfTwo (max a b)
    by-order (inl less) = let e : b ≡ max a b = omega arith in subst IsPowerOfTwo e second
    by-order (inr more) = let e : a ≡ max a b = omega arith in subst IsPowerOfTwo e first

pub max-divides : (a b : ℕ) → IsPowerOfTwo a → IsPowerOfTwo b → (a ∣ max a b) × (b ∣ max a b)
max-divides a b first second = (
  power-divides a (max a b) first (max-power a b first second) (omega arith),
  power-divides b (max a b) second (max-power a b first second) (omega arith),
)
