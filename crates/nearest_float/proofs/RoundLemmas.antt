-- A rounded quotient is the significand of the nearest size.
use Rattle.std.proofs.Common.{◌≡◌, ◌⊎◌, ℕ, zero, suc, ◌+◌, ◌*◌, ◌%◌, ◌^◌, ◌<◌, ◌≤◌, inl, inr, arith, refl, nat_lt, if◌then◌else◌, ap, ap₂, sym, ◌∙◌, subst, pow_pos}
use Rattle.std.proofs.lemmas.Bool.{cases_order, lt-ltb, le-ltb}
use Rattle.std.proofs.lemmas.Grind.{pow_more}
use Rattle.std.proofs.Math.Nat.{mul_assoc, mul-lt-mul_of_pos_right, mul-le-mul_left}
use Rattle.nearest_float.specs.Binary.{units}
use Rattle.nearest_float.specs.Scaled.{IsNearestSize, rounded_half_even}
use Rattle.nearest_float.proofs.UnitLemmas.{units-at}
use Rattle.nearest_float.proofs.NearLemmas.{nearest-below, nearest-above}

pub rounded-down : (q r b : ℕ) → 2 * r < b → rounded_half_even q r b ≡ q
rounded-down q r b less = ap (λ t. if t then q else (if (nat_lt b (2 * r)) then (q + 1) else (q + q % 2))) (lt-ltb (2 * r) b less)

pub rounded-up : (q r b : ℕ) → b < 2 * r → rounded_half_even q r b ≡ q + 1
rounded-up q r b more =
    ap₂ (λ s t. if s then q else (if t then (q + 1) else (q + q % 2))) (le-ltb (2 * r) b (omega arith)) (lt-ltb b (2 * r) more)

pub rounded-tie : (q r b : ℕ) → 2 * r ≡ b → rounded_half_even q r b ≡ q + q % 2
rounded-tie q r b same =
    ap₂ (λ s t. if s then q else (if t then (q + 1) else (q + q % 2))) (le-ltb (2 * r) b (omega arith)) (le-ltb b (2 * r) (omega arith))

pub rounded-most : (q r b : ℕ) → rounded_half_even q r b ≤ q + 1
rounded-most q r b = by-order (cases_order (2 * r) b)
  where
    by-order : (2 * r ≡ b) ⊎ ((2 * r < b) ⊎ (b < 2 * r)) → rounded_half_even q r b ≤ q + 1
    by-order (inl same) = omega (arith, rounded-tie q r b same)
    by-order (inr (inl less)) = omega (arith, rounded-down q r b less)
    by-order (inr (inr more)) = omega (arith, rounded-up q r b more)

even-power : (p e : ℕ) → 0 < p → e * 2 ^ p % 2 ≡ 0
even-power zero e some = absurd (omega (arith, some))
even-power (suc p) e some =
    let more : 2 ^ suc p ≡ 2 ^ p * 2 = ap (λ n. 2 ^ n) (omega arith) ∙ pow_more 2 p in
    let twice : e * 2 ^ suc p ≡ e * 2 ^ p * 2 = ap (λ n. e * n) more ∙ sym (mul_assoc e (2 ^ p) 2) in
    omega (arith, twice)

-- where the numerator is q and a rest over b, times 2 ^ e
pub nearest-rounded : (p x b e q r : ℕ) → 0 < p → x ≡ (q * b + r) * 2 ^ e → r < b → (e ≡ 0) ⊎ (2 ^ p ≤ q) → q < 2 * 2 ^ p →
    IsNearestSize p x b (e * 2 ^ p + rounded_half_even q r b)
nearest-rounded p x b e q r some is less hidden within = by-rest (cases_order (2 * r) b)
  where
    k : ℕ
    k = e * 2 ^ p + q

    n : ℕ
    n = 2 ^ e

    positive : 0 < b
    positive = omega (arith, less)

    lower : units p k * b ≡ q * n * b
    lower = ap (λ m. m * b) (units-at p e q hidden (omega arith))

    more-hidden : (e ≡ 0) ⊎ (2 ^ p ≤ q) → (e ≡ 0) ⊎ (2 ^ p ≤ suc q)
    more-hidden (inl none) = inl none
    more-hidden (inr from) = inr (omega arith)

    upper : units p (suc k) * b ≡ q * n * b + n * b
    upper =
        let next : suc k ≡ e * 2 ^ p + suc q = omega arith in
        let there : units p (suc k) ≡ suc q * n = ap (units p) next ∙ units-at p e (suc q) (more-hidden hidden) (omega arith) in
        let split : suc q * n * b ≡ q * n * b + n * b = omega arith in
        ap (λ m. m * b) there ∙ split

    here : x ≡ q * n * b + n * r
    here =
        let split : (q * b + r) * n ≡ q * n * b + n * r = omega arith in is ∙ split

    part : n * r ≤ n * b
    part = mul-le-mul_left n (omega arith)

    parity : k % 2 ≡ q % 2
    parity = let even = even-power p e some in omega (arith, even)

    by-rest : (2 * r ≡ b) ⊎ ((2 * r < b) ⊎ (b < 2 * r)) → IsNearestSize p x b (e * 2 ^ p + rounded_half_even q r b)
    by-rest (inr (inl down)) =
        let half : 2 * (n * r) < n * b = scaled-less in
        let P : ℕ → Type 0 = λ m. IsNearestSize p x b (e * 2 ^ p + m) in
        subst P (sym (rounded-down q r b down))
        (nearest-below p x b k positive (omega (arith, lower, here)) (omega (arith, lower, upper, here, half)) (λ same. absurd (omega (arith, lower, upper, here, half, same))))
      where
        scaled-less : 2 * (n * r) < n * b
        scaled-less =
            let less : 2 * r * n < b * n = mul-lt-mul_of_pos_right down (pow_pos e) in omega (arith, less)
    by-rest (inr (inr up)) =
        let half : n * b < 2 * (n * r) = scaled-more in
        let P : ℕ → Type 0 = λ m. IsNearestSize p x b m in
        let there : suc k ≡ e * 2 ^ p + rounded_half_even q r b = omega arith ∙ ap (λ m. e * 2 ^ p + m) (sym (rounded-up q r b up)) in
        subst P there
        (nearest-above p x b k positive (omega (arith, upper, here, part)) (omega (arith, lower, upper, here, half)) (λ same. absurd (omega (arith, lower, upper, here, half, same))))
      where
        scaled-more : n * b < 2 * (n * r)
        scaled-more =
            let less : b * n < 2 * r * n = mul-lt-mul_of_pos_right up (pow_pos e) in omega (arith, less)
    by-rest (inl tie) = by-parity (q % 2) refl
      where
        half : 2 * (n * r) ≡ n * b
        half = let full : n * (2 * r) ≡ n * b = ap (λ m. n * m) tie in omega (arith, full)

        rounded : (d : ℕ) → q % 2 ≡ d → rounded_half_even q r b ≡ q + d
        rounded d is = rounded-tie q r b tie ∙ ap (λ m. q + m) is

        by-parity : (d : ℕ) → q % 2 ≡ d → IsNearestSize p x b (e * 2 ^ p + rounded_half_even q r b)
        by-parity zero even =
            let P : ℕ → Type 0 = λ m. IsNearestSize p x b m in
            let there : k ≡ e * 2 ^ p + rounded_half_even q r b = omega (arith, rounded zero even) in
            subst P there
            (nearest-below p x b k positive (omega (arith, lower, here)) (omega (arith, lower, upper, here, half)) (λ same. parity ∙ even))
        by-parity (suc zero) odd =
            let P : ℕ → Type 0 = λ m. IsNearestSize p x b m in
            let there : suc k ≡ e * 2 ^ p + rounded_half_even q r b = omega (arith, rounded 1 odd) in
            subst P there
            (nearest-above p x b k positive (omega (arith, upper, here, part)) (omega (arith, lower, upper, here, half)) (λ same. omega (arith, parity, odd)))
        by-parity (suc (suc d)) other = absurd (omega (arith, other))
