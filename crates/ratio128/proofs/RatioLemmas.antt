-- What follows from a greatest common divisor.
use Rattle.std.proofs.Common.{◌≡◌, ℕ, zero, suc, ◌*◌, ◌/◌, ◌<◌, arith, ℤ, pos, negsuc, ◌*ℤ◌, neg_ℤ, unsigned_abs, refl, subst, sym, ap, ◌∙◌}
use Rattle.std.specs.Int.{IsGcd, ◌∣◌}
use Rattle.std.proofs.Math.Nat.{mul_assoc, one-mul, div-mul_cancel, mul-div_cancel', mul-dvd-mul_right, dvd_of_mul-dvd-mul_right, eq-zero_of_zero-dvd, one-dvd, zero-mul}
use Rattle.ratio128.specs.Ratio.{signed_like}

-- a common divisor of a number above 0 is above 0
pub IsGcd-positive : (a b g : ℕ) → IsGcd a b g → 0 < b → 0 < g
IsGcd-positive a b zero is positive =
    let none : b ≡ 0 = eq-zero_of_zero-dvd is.1 in absurd (omega arith)
IsGcd-positive a b (suc g) is positive = omega arith

-- the quotients by the greatest common divisor have no common factor
pub IsGcd-quotients : (a b g : ℕ) → 0 < g → IsGcd a b g → IsGcd (a / g) (b / g) 1
IsGcd-quotients a b g positive is = (
  one-dvd (a / g),
  one-dvd (b / g),
  λ d p q.
      let pa : d * g ∣ a = let P : ℕ → Type 0 = λ m. d * g ∣ m in subst P (div-mul_cancel g is.0) (mul-dvd-mul_right d p g) in
      let pb : d * g ∣ b = let P : ℕ → Type 0 = λ m. d * g ∣ m in subst P (div-mul_cancel g is.1) (mul-dvd-mul_right d q g) in
      let both : d * g ∣ 1 * g = rw one-mul (is.2 (d * g) pa pb) in
      dvd_of_mul-dvd-mul_right d positive both,
)

pub unsigned_abs-signed_like : (z : ℤ) (n : ℕ) → unsigned_abs (signed_like z n) ≡ n
unsigned_abs-signed_like (pos m) n = refl
unsigned_abs-signed_like (negsuc m) zero = refl
unsigned_abs-signed_like (negsuc m) (suc n) = refl

-- a fraction keeps its value when a common factor goes
crossed : (a b g : ℕ) → IsGcd a b g → a * (b / g) ≡ a / g * b
crossed a b g is =
    ap (λ m. m * (b / g)) (sym (div-mul_cancel g is.0)) ∙ mul_assoc (a / g) g (b / g) ∙ ap (λ m. a / g * m) (mul-div_cancel' g is.1)

neg_times : (k b : ℕ) → neg_ℤ (pos (k * b)) ≡ neg_ℤ (pos k) *ℤ pos b
neg_times zero b = rw zero-mul refl
neg_times (suc k) b = refl

pub same_fraction : (z : ℤ) (b g : ℕ) → IsGcd (unsigned_abs z) b g → z *ℤ pos (b / g) ≡ signed_like z (unsigned_abs z / g) *ℤ pos b
same_fraction (pos a) b g is = ap pos (crossed a b g is)
same_fraction (negsuc a) b g is = ap (λ m. neg_ℤ (pos m)) (crossed (suc a) b g is) ∙ neg_times (suc a / g) b

-- the quotient by a common divisor is above 0
pub quotient_positive : (a b g : ℕ) → IsGcd a b g → 0 < b → 0 < b / g
quotient_positive a b g is positive =
    let whole : b / g * g ≡ b = div-mul_cancel g is.1 in nonzero (b / g) whole
  where
    nonzero : (q : ℕ) → q * g ≡ b → 0 < q
    nonzero zero e = let none : 0 ≡ b = sym (zero-mul g) ∙ e in absurd (omega arith)
    nonzero (suc q) e = omega arith

pub lowest_same : (num : ℤ) (den amount g : ℕ) (r : ℤ) → amount ≡ unsigned_abs num → IsGcd amount den g →
    r ≡ signed_like num (amount / g) → num *ℤ pos (den / g) ≡ r *ℤ pos den
lowest_same num den amount g r e is s =
    let is' : IsGcd (unsigned_abs num) den g = let P : ℕ → Type 0 = λ k. IsGcd k den g in subst P e is in
    same_fraction num den g is' ∙ ap (λ k. signed_like num (k / g) *ℤ pos den) (sym e) ∙ ap (λ k. k *ℤ pos den) (sym s)

pub lowest_gcd : (num : ℤ) (den amount g : ℕ) (r : ℤ) → 0 < g → IsGcd amount den g → r ≡ signed_like num (amount / g) →
    IsGcd (unsigned_abs r) (den / g) 1
lowest_gcd num den amount g r positive is s =
    let P : ℕ → Type 0 = λ k. IsGcd k (den / g) 1 in
    subst P (sym (unsigned_abs-signed_like num (amount / g)) ∙ ap unsigned_abs (sym s)) (IsGcd-quotients amount den g positive is)
