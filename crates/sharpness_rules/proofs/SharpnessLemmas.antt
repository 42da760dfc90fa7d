-- Fractions in lowest terms, and the sharpness of equal fractions.
use Rattle.std.proofs.Common.{◌≡◌, ℕ, zero, suc, ◌*◌, ◌/◌, ◌<◌, ◌≤◌, arith, refl, sym, ap, ◌∙◌, nat_le, if◌then◌else◌, inl, inr}
use Rattle.std.specs.Int.{IsGcd}
use Rattle.std.proofs.lemmas.Nat.Gcd.{IsGcd-swap, same_from_IsGcd}
use Rattle.std.proofs.lemmas.Bool.{cond-false, cases_lt, le-leb, lt-leb}
use Rattle.std.proofs.Math.Nat.{mul-le-mul_right, mul-lt-mul_of_pos_right, lt_of_mul-lt-mul_right, le_of_mul-le-mul_right, div-mul_cancel, div-le_self}
use Rattle.ratio128.proofs.RatioLemmas.{IsGcd-positive, IsGcd-quotients, quotient_positive}
use Rattle.subdiv_model.specs.Fractions.{gcd_of, lowest}
use Rattle.subdiv_model.specs.Rule.{at_most_one}
use Rattle.subdiv_model.specs.Sharpness.{Infinite, semi_of, sharpness_of}
use Rattle.number_laws.proofs.FractionLemmas.{gcd_of-is}
use Rattle.number_laws.proofs.DivisorLemmas.{lowest-same}

-- a fraction, its greatest common divisor taken out
pub record AreParts (num den g : ℕ) : Type 0 where
  pub above : 0 < num / g
  pub below : num < 10 * den → num / g < 10 * (den / g)
  pub ordered : num ≤ den → num / g ≤ den / g
  pub short : den / g ≤ den
  pub lowest : gcd_of (num / g) (den / g) ≡ 1

pub AreParts-from : (num den g : ℕ) → IsGcd num den g → 0 < num → 0 < den → AreParts num den g
AreParts-from num den g is above positive =
    let some : 0 < g = IsGcd-positive num den g is positive in
    record {
      above = quotient_positive den num g (IsGcd-swap num den g is) above;
      below = λ h. lt_of_mul-lt-mul_right g (less h);
      ordered = λ h. le_of_mul-le-mul_right (omega (arith, h, div-mul_cancel g is.0, div-mul_cancel g is.1)) some;
      short = div-le_self den g;
      lowest = same_from_IsGcd (num / g) (den / g) (gcd_of (num / g) (den / g)) 1 (gcd_of-is (num / g) (den / g)) (IsGcd-quotients num den g some is);
    }
  where
    less : num < 10 * den → num / g * g < 10 * (den / g) * g
    less h = omega (arith, h, div-mul_cancel g is.0, div-mul_cancel g is.1)

same-lowest : (num den g : ℕ) → IsGcd num den g → (num / g, den / g) ≡ lowest (num, den)
same-lowest num den g is = ap (λ h. (num / h, den / h)) (same_from_IsGcd num den g (gcd_of num den) is (gcd_of-is num den))

-- the sharpness of a fraction between 0 and 10
pub sharpness_of-semi : (num den g : ℕ) → IsGcd num den g → 0 < num → num < 10 * den → semi_of (num / g, den / g) ≡ sharpness_of num den
sharpness_of-semi zero den g is above below = absurd (omega arith)
sharpness_of-semi (suc n) den g is above below =
    ap semi_of (same-lowest (suc n) den g is) ∙ sym (cond-false (nat_le (10 * den) (suc n)) Infinite (semi_of (lowest (suc n, den))) (lt-leb (10 * den) (suc n) below))

-- a mean below 1
pub at_most_one-less : (num den g : ℕ) → IsGcd num den g → num < den → (num / g, den / g) ≡ at_most_one (num, den)
at_most_one-less num den g is less =
    same-lowest num den g is ∙ sym (cond-false (nat_le den num) (1, 1) (lowest (num, den)) (lt-leb den num less))

-- Of two equal fractions both reach a bound or neither does.
crossed-le : (a b c d k : ℕ) → 0 < b → a * d ≡ c * b → k * b ≤ a → k * d ≤ c
crossed-le a b c d k positive crossed h =
    elim (cases_lt c (k * d)) [
      | inl less ↦ let more : c * b < k * d * b = mul-lt-mul_of_pos_right less positive in
          let least : k * b * d ≤ a * d = mul-le-mul_right d h in
          absurd (omega (arith, more, least, crossed))
      | inr rest ↦ rest
    ]

same-test : (a b c d k : ℕ) → 0 < b → 0 < d → a * d ≡ c * b → nat_le (k * b) a ≡ nat_le (k * d) c
same-test a b c d k above below crossed =
    elim (cases_lt a (k * b)) [
      | inl less ↦ lt-leb (k * b) a less ∙ sym (lt-leb (k * d) c (other less))
      | inr rest ↦ le-leb (k * b) a rest ∙ sym (le-leb (k * d) c (crossed-le a b c d k above crossed rest))
    ]
  where
    other : a < k * b → c < k * d
    other less =
        elim (cases_lt c (k * d)) [
          | inl here ↦ here
          | inr rest ↦ let back = crossed-le c d a b k below (sym crossed) rest in absurd (omega (arith, back, less))
        ]

-- equal fractions are one sharpness
pub sharpness_of-same : (a b c d : ℕ) → 0 < b → 0 < d → a * d ≡ c * b → sharpness_of a b ≡ sharpness_of c d
sharpness_of-same zero b zero d above below crossed = refl
sharpness_of-same zero b (suc c) d above below crossed = absurd (omega (arith, crossed))
sharpness_of-same (suc a) b zero d above below crossed = absurd (omega (arith, crossed))
sharpness_of-same (suc a) b (suc c) d above below crossed =
    ap (λ t. if t then Infinite else semi_of (lowest (suc a, b))) (same-test (suc a) b (suc c) d 10 above below crossed)
    ∙ ap (λ x. if nat_le (10 * d) (suc c) then Infinite else semi_of x) (lowest-same (suc a) b (suc c) d above below crossed)

-- equal means are one weight
pub at_most_one-same : (a b c d : ℕ) → 0 < b → 0 < d → a * d ≡ c * b → at_most_one (a, b) ≡ at_most_one (c, d)
at_most_one-same a b c d above below crossed =
    ap (λ t. if t then (1, 1) else lowest (a, b)) (test ∙ same-test a b c d 1 above below crossed ∙ sym back)
    ∙ ap (λ x. if nat_le d c then (1, 1) else x) (lowest-same a b c d above below crossed)
  where
    test : nat_le b a ≡ nat_le (1 * b) a
    test = ap (λ n. nat_le n a) (let e : b ≡ 1 * b = omega arith in e)

    back : nat_le d c ≡ nat_le (1 * d) c
    back = ap (λ n. nat_le n c) (let e : d ≡ 1 * d = omega arith in e)
