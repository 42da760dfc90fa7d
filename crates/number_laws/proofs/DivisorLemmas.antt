-- Greatest common divisors, least common multiples and lowest terms.
use Rattle.std.proofs.Common.{◌≡◌, ℕ, zero, suc, ◌*◌, ◌/◌, ◌<◌, arith, ap, sym, ◌∙◌, subst}
use Rattle.std.specs.Int.{IsGcd, ◌∣◌}
use Rattle.std.proofs.lemmas.Nat.Gcd.{dvd_trans, same_from_IsGcd}
use Rattle.std.proofs.Math.Nat.{one-mul, mul_assoc, div-mul_cancel, mul-div_cancel', mul-div-mul_left, dvd-mul_right, mul-dvd-mul_left, mul-dvd-mul_right, dvd_of_mul-dvd-mul_left, dvd_of_mul-dvd-mul_right, pos_of_dvd_of_pos, lt_of_mul-lt-mul_right, one-dvd}
use Rattle.subdiv_model.specs.Fractions.{gcd_of, lowest}
use Rattle.number_laws.proofs.FractionLemmas.{gcd_of-is}

-- a factor of a number above 0 is above 0
pub factor-positive : (q g n : ℕ) → q * g ≡ n → 0 < n → 0 < q
factor-positive zero g n e positive = absurd (omega arith)
factor-positive (suc q) g n e positive = omega arith

-- the greatest common divisor is above 0
pub gcd-positive : (a b : ℕ) → 0 < b → 0 < gcd_of a b
gcd-positive a b positive = pos_of_dvd_of_pos (gcd_of-is a b).1 positive

-- a factor of both comes out
pub gcd-scaled : (n a b : ℕ) → 0 < n → gcd_of (n * a) (n * b) ≡ n * gcd_of a b
gcd-scaled n a b positive =
    let g = gcd_of a b in
    let is = gcd_of-is a b in
    let all = gcd_of (n * a) (n * b) in
    let whole = gcd_of-is (n * a) (n * b) in
    let factor : n ∣ all = whole.2 n (dvd-mul_right n a) (dvd-mul_right n b) in
    let split : n * (all / n) ≡ all = mul-div_cancel' n factor in
    let left : n * (all / n) ∣ n * a = rw split whole.0 in
    let right : n * (all / n) ∣ n * b = rw split whole.1 in
    let inner : all / n ∣ g = is.2 (all / n) (dvd_of_mul-dvd-mul_left (all / n) positive left) (dvd_of_mul-dvd-mul_left (all / n) positive right) in
    let within : all ∣ n * g = let P : ℕ → Type 0 = λ m. m ∣ n * g in subst P split (mul-dvd-mul_left (all / n) n inner) in
    same_from_IsGcd (n * a) (n * b) all (n * g) whole (mul-dvd-mul_left g n is.0, mul-dvd-mul_left g n is.1, λ d p q. dvd_trans d (whole.2 d p q) within)

-- a common factor changes nothing in lowest terms
pub lowest-scaled : (n a b : ℕ) → 0 < n → lowest (n * a, n * b) ≡ lowest (a, b)
lowest-scaled n a b positive =
    ap (λ g. (n * a / g, n * b / g)) (gcd-scaled n a b positive)
    ∙ ap (λ m. (m, n * b / (n * gcd_of a b))) (mul-div-mul_left a (gcd_of a b) positive)
    ∙ ap (λ m. (a / gcd_of a b, m)) (mul-div-mul_left b (gcd_of a b) positive)

-- equal fractions have the same lowest terms
pub lowest-same : (a b c d : ℕ) → 0 < b → 0 < d → a * d ≡ c * b → lowest (a, b) ≡ lowest (c, d)
lowest-same a b c d above below crossed =
    let nums : d * a ≡ b * c = omega (arith, crossed) in
    let dens : d * b ≡ b * d = omega arith in
    sym (lowest-scaled d a b below)
    ∙ ap (λ n. lowest (n, d * b)) nums
    ∙ ap (λ n. lowest (b * c, n)) dens
    ∙ lowest-scaled b c d above

-- lowest terms have no common factor
pub lowest-coprime : (a b : ℕ) → 0 < b → IsGcd (lowest (a, b)).0 (lowest (a, b)).1 1
lowest-coprime a b above =
    let g = gcd_of a b in
    let is = gcd_of-is a b in
    let positive = gcd-positive a b above in (
      one-dvd (a / g),
      one-dvd (b / g),
      λ d p q.
          let pa : d * g ∣ a = let P : ℕ → Type 0 = λ m. d * g ∣ m in subst P (div-mul_cancel g is.0) (mul-dvd-mul_right d p g) in
          let pb : d * g ∣ b = let P : ℕ → Type 0 = λ m. d * g ∣ m in subst P (div-mul_cancel g is.1) (mul-dvd-mul_right d q g) in
          let both : d * g ∣ 1 * g = rw one-mul (is.2 (d * g) pa pb) in
          dvd_of_mul-dvd-mul_right d positive both,
    )

-- a fraction above 0 is above 0 in lowest terms, and one below a whole number is below it
pub lowest-positive : (a b : ℕ) → 0 < a → 0 < (lowest (a, b)).0
lowest-positive a b above = factor-positive (a / gcd_of a b) (gcd_of a b) a (div-mul_cancel (gcd_of a b) (gcd_of-is a b).0) above

pub lowest-below : (k a b : ℕ) → a < k * b → (lowest (a, b)).0 < k * (lowest (a, b)).1
lowest-below k a b below =
    let g = gcd_of a b in
    let is = gcd_of-is a b in
    let num : a / g * g ≡ a = div-mul_cancel g is.0 in
    let den : k * (b / g) * g ≡ k * b = mul_assoc k (b / g) g ∙ ap (λ n. k * n) (div-mul_cancel g is.1) in
    lt_of_mul-lt-mul_right g (omega arith)

-- lowest terms are the same fraction
pub lowest-fraction : (a b : ℕ) → 0 < b → a * (lowest (a, b)).1 ≡ (lowest (a, b)).0 * b
lowest-fraction a b above =
    let g = gcd_of a b in
    let is = gcd_of-is a b in
    ap (λ m. m * (b / g)) (sym (div-mul_cancel g is.0)) ∙ mul_assoc (a / g) g (b / g) ∙ ap (λ m. a / g * m) (mul-div_cancel' g is.1)
