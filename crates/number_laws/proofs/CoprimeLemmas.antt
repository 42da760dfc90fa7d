-- Numbers without a common factor: products, powers, and numbers without the factor 2 or 5 over powers of these.
use Rattle.std.proofs.Common.{◌≡◌, ◌≢◌, ◌⊎◌, ℕ, zero, suc, ◌+◌, ◌*◌, ◌/◌, ◌%◌, ◌^◌, ◌<◌, ◌≤◌, inl, inr, arith, lit<, refl, ap, sym, ◌∙◌, subst}
use Rattle.std.specs.Int.{IsGcd, ◌∣◌}
use Rattle.std.proofs.lemmas.Grind.{pow_more}
use Rattle.std.proofs.lemmas.Nat.Gcd.{dvd_trans, same_from_IsGcd, IsGcd-from_mod}
use Rattle.std.proofs.Math.Nat.{dvd-mul_left, mul_comm, mul-one, div-one, mod-lt, one-dvd, one-le-pow, pow-zero}
use Rattle.subdiv_model.specs.Fractions.{gcd_of, lowest}
use Rattle.number_laws.proofs.FractionLemmas.{gcd_of-is}
use Rattle.number_laws.proofs.DivisorLemmas.{gcd-scaled}

-- the computed divisor of numbers without a common factor is 1
pub coprime-gcd : (a b : ℕ) → IsGcd a b 1 → gcd_of a b ≡ 1
coprime-gcd a b is = same_from_IsGcd a b (gcd_of a b) 1 (gcd_of-is a b) is

-- nothing has a factor in common with 1
pub coprime-one : (a : ℕ) → IsGcd a 1 1
coprime-one a = (one-dvd a, one-dvd 1, λ d p q. q)

-- what has no factor in common with two numbers has none with their product
pub coprime-product : (a b c : ℕ) → 0 < c → IsGcd a b 1 → IsGcd a c 1 → IsGcd a (b * c) 1
coprime-product a b c positive first second = (
  one-dvd a,
  one-dvd (b * c),
  λ d p q.
      let left : d ∣ c * a = dvd_trans d p (dvd-mul_left a c) in
      let right : d ∣ c * b = let P : ℕ → Type 0 = λ n. d ∣ n in subst P (mul_comm b c) q in
      let both : d ∣ gcd_of (c * a) (c * b) = (gcd_of-is (c * a) (c * b)).2 d left right in
      let factor : gcd_of (c * a) (c * b) ≡ c = gcd-scaled c a b positive ∙ ap (λ g. c * g) (coprime-gcd a b first) ∙ mul-one c in
      let within : d ∣ c = let P : ℕ → Type 0 = λ n. d ∣ n in subst P factor both in
      second.2 d p within,
)

coprime-none : (a p : ℕ) → IsGcd a (p ^ 0) 1
coprime-none a p = let P : ℕ → Type 0 = λ n. IsGcd a n 1 in subst P (sym (pow-zero p)) (coprime-one a)

pub coprime-power : (a p k : ℕ) → 0 < p → IsGcd a p 1 → IsGcd a (p ^ k) 1
coprime-power a p zero positive is = coprime-none a p
coprime-power a p (suc k) positive is =
    let more : p ^ (k + 1) ≡ p ^ k * p = pow_more p k in
    let next : p ^ suc k ≡ p ^ k * p = ap (λ n. p ^ n) (omega arith) ∙ more in
    let P : ℕ → Type 0 = λ n. IsGcd a n 1 in
    subst P (sym next) (coprime-product a (p ^ k) p positive (coprime-power a p k positive is) is)

-- an odd number has no factor in common with 2
pub coprime-two : (a : ℕ) → a % 2 ≢ 0 → IsGcd a 2 1
coprime-two a odd = IsGcd-from_mod a 2 1 (rest (a % 2) (mod-lt a (lit< tt)) odd)
  where
    rest : (r : ℕ) → r < 2 → r ≢ 0 → IsGcd 2 r 1
    rest zero below some = absurd (some refl)
    rest (suc zero) below some = coprime-one 2
    rest (suc (suc r)) below some = absurd (omega arith)

pub coprime-five : (a : ℕ) → a % 5 ≢ 0 → IsGcd a 5 1
coprime-five a other = IsGcd-from_mod a 5 1 (rest (a % 5) (mod-lt a (lit< tt)) other)
  where
    rest : (r : ℕ) → r < 5 → r ≢ 0 → IsGcd 5 r 1
    rest zero below some = absurd (some refl)
    rest (suc zero) below some = gcd_of-is 5 1
    rest (suc (suc zero)) below some = gcd_of-is 5 2
    rest (suc (suc (suc zero))) below some = gcd_of-is 5 3
    rest (suc (suc (suc (suc zero)))) below some = gcd_of-is 5 4
    rest (suc (suc (suc (suc (suc r))))) below some = absurd (omega arith)

power-of : (a p k : ℕ) → 0 < p → (a % p ≢ 0 → IsGcd a p 1) → (k ≡ 0) ⊎ (a % p ≢ 0) → IsGcd a (p ^ k) 1
power-of a p k positive is (inl none) = let P : ℕ → Type 0 = λ n. IsGcd a (p ^ n) 1 in subst P (sym none) (coprime-none a p)
power-of a p k positive is (inr other) = coprime-power a p k positive (is other)

power-positive : (p k : ℕ) → 0 < p → 0 < p ^ k
power-positive p k positive = let one : 1 ≤ p ^ k = one-le-pow k p positive in omega arith

-- a number has no factor in common with twos and fives, where each is gone or does not divide it
pub coprime-tens : (a twos fives : ℕ) → (twos ≡ 0) ⊎ (a % 2 ≢ 0) → (fives ≡ 0) ⊎ (a % 5 ≢ 0) → IsGcd a (2 ^ twos * 5 ^ fives) 1
coprime-tens a twos fives even five =
    coprime-product a (2 ^ twos) (5 ^ fives) (power-positive 5 fives (lit< tt))
    (power-of a 2 twos (lit< tt) (coprime-two a) even) (power-of a 5 fives (lit< tt) (coprime-five a) five)

-- lowest terms are their own
pub lowest-stays : (a b : ℕ) → IsGcd a b 1 → lowest (a, b) ≡ (a, b)
lowest-stays a b is =
    ap (λ g. (a / g, b / g)) (coprime-gcd a b is) ∙ ap (λ n. (n, b / 1)) (div-one a) ∙ ap (λ n. (a, n)) (div-one b)
