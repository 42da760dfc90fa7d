-- What equal fractions share: their sums, differences and products, and the sharpness that they name.
use Rattle.std.proofs.Common.{◌≡◌, ℕ, zero, suc, ◌+◌, ◌-◌, ◌*◌, ◌<◌, ◌≤◌, Bool, true, false, nat_le, if◌then◌else◌, arith, refl, ap, sym, ◌∙◌}
use Rattle.std.proofs.lemmas.Bool.{leb-true, le-leb}
use Rattle.std.proofs.Math.Nat.{one-mul, mul-sub, mul_comm, le_of_mul-le-mul_right, mul-le-mul_right}
use Rattle.subdiv_model.specs.Fractions.{lowest, plus_fraction, minus_fraction, times_fraction}
use Rattle.subdiv_model.specs.Sharpness.{Infinite, semi_of, sharpness_of, sharpness_of_fraction, chaikin_value}
use Rattle.subdiv_model.specs.Rule.{at_most_one}
use Rattle.number_laws.proofs.DivisorLemmas.{lowest-same}
use Rattle.sharpness_laws.specs.SameFraction.{IsSameFraction}

pub same-plus : (x y u v : ℕ × ℕ) → IsSameFraction x u → IsSameFraction y v → IsSameFraction (plus_fraction x y) (plus_fraction u v)
same-plus x y u v p q = over x.0 x.1 y.0 y.1 u.0 u.1 v.0 v.1 p q
  where
    over : (a b c d e f g h : ℕ) → a * f ≡ e * b → c * h ≡ g * d → (a * d + c * b) * (f * h) ≡ (e * h + g * f) * (b * d)
    over a b c d e f g h p q = omega (arith, ap (λ n. n * (d * h)) p, ap (λ n. n * (b * f)) q)

pub same-minus : (x y u v : ℕ × ℕ) → IsSameFraction x u → IsSameFraction y v → IsSameFraction (minus_fraction x y) (minus_fraction u v)
same-minus x y u v p q = over x.0 x.1 y.0 y.1 u.0 u.1 v.0 v.1 p q
  where
    sub-mul : (m n k : ℕ) → (m - n) * k ≡ m * k - n * k
    sub-mul m n k = mul_comm (m - n) k ∙ mul-sub k m n ∙ ap (λ l. l - k * n) (mul_comm k m) ∙ ap (λ l. m * k - l) (mul_comm k n)

    over : (a b c d e f g h : ℕ) → a * f ≡ e * b → c * h ≡ g * d → (a * d - c * b) * (f * h) ≡ (e * h - g * f) * (b * d)
    over a b c d e f g h p q =
        let first : a * d * (f * h) ≡ e * h * (b * d) = omega (arith, ap (λ n. n * (d * h)) p) in
        let second : c * b * (f * h) ≡ g * f * (b * d) = omega (arith, ap (λ n. n * (b * f)) q) in
        sub-mul (a * d) (c * b) (f * h) ∙ ap (λ l. l - c * b * (f * h)) first ∙ ap (λ l. e * h * (b * d) - l) second
        ∙ sym (sub-mul (e * h) (g * f) (b * d))

pub same-times : (x y u v : ℕ × ℕ) → IsSameFraction x u → IsSameFraction y v → IsSameFraction (times_fraction x y) (times_fraction u v)
same-times x y u v p q = over x.0 x.1 y.0 y.1 u.0 u.1 v.0 v.1 p q
  where
    over : (a b c d e f g h : ℕ) → a * f ≡ e * b → c * h ≡ g * d → a * c * (f * h) ≡ e * g * (b * d)
    over a b c d e f g h p q = omega (arith, ap (λ n. n * (c * h)) p, ap (λ n. e * b * n) q)

-- a multiple of the denominator is at most the one numerator exactly where it is at most the other
bound : (k a b c d : ℕ) → 0 < b → 0 < d → a * d ≡ c * b → k * b ≤ a → k * d ≤ c
bound k a b c d above below same h =
    le_of_mul-le-mul_right {k = b} (let more = mul-le-mul_right d h in omega (arith, same)) above

same-bound : (k a b c d : ℕ) → 0 < b → 0 < d → a * d ≡ c * b → nat_le (k * b) a ≡ nat_le (k * d) c
same-bound k a b c d above below same = either (nat_le (k * b) a) (nat_le (k * d) c) refl refl
  where
    either : (s t : Bool) → nat_le (k * b) a ≡ s → nat_le (k * d) c ≡ t → s ≡ t
    either true true p q = refl
    either true false p q = sym (le-leb (k * d) c (bound k a b c d above below same (leb-true (k * b) a p))) ∙ q
    either false true p q = sym p ∙ le-leb (k * b) a (bound k c d a b below above (sym same) (leb-true (k * d) c q))
    either false false p q = refl

-- the sharpness of a fraction depends only on its value
pub sharpness-same : (x y : ℕ × ℕ) → 0 < x.1 → 0 < y.1 → IsSameFraction x y → sharpness_of_fraction x ≡ sharpness_of_fraction y
sharpness-same x y above below same = over x.0 x.1 y.0 y.1 above below same
  where
    above-zero : (c b : ℕ) → 0 < b → suc c * b ≡ 0 → ⊥
    above-zero c zero h e = omega arith
    above-zero c (suc b) h e = omega arith

    over : (a b c d : ℕ) → 0 < b → 0 < d → a * d ≡ c * b → sharpness_of a b ≡ sharpness_of c d
    over zero b zero d h k e = refl
    over zero b (suc c) d h k e = absurd (above-zero c b h (omega arith))
    over (suc a) b zero d h k e = absurd (above-zero a d k (omega arith))
    over (suc a) b (suc c) d h k e =
        ap (λ t. if t then Infinite else semi_of (lowest (suc a, b))) (same-bound 10 (suc a) b (suc c) d h k e)
        ∙ ap (λ x. if nat_le (10 * d) (suc c) then Infinite else semi_of x) (lowest-same (suc a) b (suc c) d h k e)

-- the weight of a transition too
pub at_most_one-same : (x y : ℕ × ℕ) → 0 < x.1 → 0 < y.1 → IsSameFraction x y → at_most_one x ≡ at_most_one y
at_most_one-same x y above below same = over x.0 x.1 y.0 y.1 above below same
  where
    over : (a b c d : ℕ) → 0 < b → 0 < d → a * d ≡ c * b → at_most_one (a, b) ≡ at_most_one (c, d)
    over a b c d h k e =
        let bounded : nat_le b a ≡ nat_le d c =
        sym (ap (λ n. nat_le n a) (one-mul b)) ∙ same-bound 1 a b c d h k e ∙ ap (λ n. nat_le n c) (one-mul d) in
        ap (λ t. if t then (1, 1) else lowest (a, b)) bounded ∙ ap (λ (x : ℕ × ℕ). if nat_le d c then (1, 1) else x) (lowest-same a b c d h k e)

pub chaikin_value-same : (s total other : ℕ × ℕ) (count : ℕ) → IsSameFraction total other
    → IsSameFraction (chaikin_value s total count) (chaikin_value s other count)
chaikin_value-same s total other count same =
    let rest = same-minus total s other s same refl in
    let shared = same-times (1, 4 * (count - 1)) (minus_fraction total s) (1, 4 * (count - 1)) (minus_fraction other s) refl rest in
    let own = times_fraction (3, 4) s in
    same-minus _ (1, 1) _ (1, 1) (same-plus own _ own _ refl shared) refl
