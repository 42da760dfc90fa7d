-- Amounts rounded to multiples of a power of two.
use Rattle.std.proofs.Common.{◌≡◌, ◌⊎◌, ℕ, zero, suc, ◌+◌, ◌-◌, ◌*◌, ◌%◌, ◌^◌, ◌<◌, ◌≤◌, inl, inr, false, not, nat_eq, arith, refl, ap, ap₂, sym, ◌∙◌, subst, pow_pos, pow_mono}
use Rattle.std.specs.Int.{abs_diff}
use Rattle.std.proofs.lemmas.Bool.{cases_order, ne_eqb}
use Rattle.std.proofs.lemmas.Nat.{pow-add}
use Rattle.std.proofs.Math.Nat.{mul_assoc, mul_comm, mul-one, add-mul, mul-sub, mul-le-mul_right, eq_of_mul-eq-mul_right}
use Rattle.nearest_float.specs.Scaled.{rounded_half_even}
use Rattle.nearest_float.proofs.RoundLemmas.{rounded-down, rounded-up, rounded-tie}
use Rattle.row_arrays.specs.declared.amount.Rounded.{Rounded}
use Rattle.row_arrays.specs.Amounts.{IsNearestAmount, IsRounding, IsFarAmount}

-- both are 0, or neither is
same-none : (a b : ℕ) → ((a ≡ 0) × (b ≡ 0)) ⊎ ((0 < a) × (0 < b)) → nat_eq a 0 ≡ nat_eq b 0
same-none a b (inl none) = ap (λ n. nat_eq n 0) (none.0 ∙ sym none.1)
same-none a b (inr some) =
    ne_eqb a 0 (λ e. let more = some.0 in omega (arith, e, more)) ∙ sym (ne_eqb b 0 (λ e. let more = some.1 in omega (arith, e, more)))

-- a quotient that is n where its rest is r, by how far n is from it
record IsClose (r b n d : ℕ) : Type 0 where
  near : 2 * d ≤ b
  even : 2 * d ≡ b → n % 2 ≡ 0
  same : ((r ≡ 0) × (d ≡ 0)) ⊎ ((0 < r) × (0 < d))

close-below : (r b n : ℕ) → 2 * r ≤ b → (2 * r ≡ b → n % 2 ≡ 0) → IsClose r b n r
close-below r b n less even = record { near = less; even = even; same = by-rest (cases_order r 0) }
  where
    by-rest : (r ≡ 0) ⊎ ((r < 0) ⊎ (0 < r)) → ((r ≡ 0) × (r ≡ 0)) ⊎ ((0 < r) × (0 < r))
    by-rest (inl none) = inl (none, none)
    by-rest (inr (inl less)) = absurd (omega arith)
    by-rest (inr (inr some)) = inr (some, some)

close-above : (r b n : ℕ) → r < b → b ≤ 2 * r → (2 * r ≡ b → n % 2 ≡ 0) → IsClose r b n (b - r)
close-above r b n rest more even = record {
  near = omega arith;
  even = λ same. even (omega (arith, same));
  same = inr (omega arith, omega arith);
}

gap-below : (q r b s n : ℕ) → q * b + r ≡ s → n ≡ q → r ≡ abs_diff (n * b) (s * 1)
gap-below q r b s n whole is = let same : n * b ≡ q * b = ap (λ m. m * b) is in omega (arith, whole, same)

gap-above : (q r b s n : ℕ) → q * b + r ≡ s → r < b → n ≡ q + 1 → b - r ≡ abs_diff (n * b) (s * 1)
gap-above q r b s n whole rest is =
    let same : n * b ≡ (q + 1) * b = ap (λ m. m * b) is in
    let next : (q + 1) * b ≡ q * b + b = omega arith in
    omega (arith, whole, same, next, rest)

close-half-even : (q r b s n : ℕ) → q * b + r ≡ s → r < b → n ≡ rounded_half_even q r b → IsClose r b n (abs_diff (n * b) (s * 1))
close-half-even q r b s n whole rest is = by-order (cases_order (2 * r) b)
  where
    tie : 2 * r ≡ b → (d : ℕ) → q % 2 ≡ d → d < 2 → IsClose r b n (abs_diff (n * b) (s * 1))
    tie same zero even less =
        let n-is : n ≡ q = is ∙ rounded-tie q r b same ∙ omega (arith, even) in
        subst (IsClose r b n) (gap-below q r b s n whole n-is) (close-below r b n (omega arith) (λ e. omega (arith, n-is, even)))
    tie same (suc zero) odd less =
        let n-is : n ≡ q + 1 = is ∙ rounded-tie q r b same ∙ omega (arith, odd) in
        subst (IsClose r b n) (gap-above q r b s n whole rest n-is) (close-above r b n rest (omega arith) (λ e. omega (arith, n-is, odd)))
    tie same (suc (suc d)) other less = absurd (omega (arith, less))

    by-order : (2 * r ≡ b) ⊎ ((2 * r < b) ⊎ (b < 2 * r)) → IsClose r b n (abs_diff (n * b) (s * 1))
    by-order (inl same) = tie same (q % 2) refl (omega arith)
    by-order (inr (inl less)) =
        subst (IsClose r b n) (gap-below q r b s n whole (is ∙ rounded-down q r b less)) (close-below r b n (omega arith) (λ e. absurd (omega (arith, e, less))))
    by-order (inr (inr more)) =
        subst (IsClose r b n) (gap-above q r b s n whole rest (is ∙ rounded-up q r b more))
        (close-above r b n rest (omega arith) (λ e. absurd (omega (arith, e, more))))

-- a rounded quotient, and whether there is a rest
pub half-even-nearest : (q r b s n : ℕ) → q * b + r ≡ s → r < b → n ≡ rounded_half_even q r b → IsNearestAmount s b 1 n
half-even-nearest q r b s n whole rest is = let close = close-half-even q r b s n whole rest is in record { near = close.near; even = close.even }

pub half-even-changed : (q r b s n : ℕ) → q * b + r ≡ s → r < b → n ≡ rounded_half_even q r b →
    not (nat_eq r 0) ≡ not (nat_eq (abs_diff (n * b) (s * 1)) 0)
half-even-changed q r b s n whole rest is = ap not (same-none r (abs_diff (n * b) (s * 1)) (close-half-even q r b s n whole rest is).same)

-- far below 1
pub none-nearest : (s e : ℕ) → s < 2 ^ 53 → 63 < e → IsNearestAmount s (2 ^ e) 1 0
none-nearest s e small many =
    let large : 2 ^ 64 ≤ 2 ^ e = pow_mono {i = 64} (omega (arith, many)) in
    let none : 0 * 2 ^ e ≡ 0 = omega arith in
    record { near = omega (arith, small, large, none); even = λ same. absurd (omega (arith, same, small, large, none)) }

pub none-changed : (s e : ℕ) → not (nat_eq s 0) ≡ not (nat_eq (abs_diff (0 * 2 ^ e) (s * 1)) 0)
none-changed s e = let none : 0 * 2 ^ e ≡ 0 = omega arith in ap (λ n. not (nat_eq n 0)) (omega (arith, none))

abs_diff-times : (a b n : ℕ) → abs_diff (a * n) (b * n) ≡ abs_diff a b * n
abs_diff-times a b n = sym (add-mul (a - b) (b - a) n ∙ ap₂ (λ i j. i + j) (part a b) (part b a))
  where
    part : (i j : ℕ) → (i - j) * n ≡ i * n - j * n
    part i j = mul_comm (i - j) n ∙ mul-sub n i j ∙ ap₂ (λ k l. k - l) (mul_comm n i) (mul_comm n j)

product-some : (d c : ℕ) → 0 < d → 0 < c → 0 < d * c
product-some d c first second = let least : 1 * c ≤ d * c = mul-le-mul_right c first in omega (arith, least, second)

-- The rounding over a multiple of both denominators.
pub scaled-rounding : (s one a o m c : ℕ) (r : Rounded) → 0 < c → o ≡ one * c → a * m ≡ s * c → IsRounding s one 1 r → IsRounding a o m r
scaled-rounding s one a o m c r some over amount is = record {
  nearest = record {
    near = let times = mul-le-mul_right c is.nearest.near in omega (arith, times, gap, over, turned (abs_diff (r.amount * one) (s * 1)));
    even = λ same. is.nearest.even (eq_of_mul-eq-mul_right c some _ _ (turned (abs_diff (r.amount * one) (s * 1)) ∙ ap (λ n. 2 * n) (sym gap) ∙ same ∙ over));
  };
  fits = is.fits;
  changed = is.changed ∙ ap not (same-none (abs_diff (r.amount * one) (s * 1)) (abs_diff (r.amount * o) (a * m)) (by-gap (cases_order (abs_diff (r.amount * one) (s * 1)) 0)));
}
  where
    turned : (d : ℕ) → 2 * d * c ≡ 2 * (d * c)
    turned d = mul_assoc 2 d c

    gap : abs_diff (r.amount * o) (a * m) ≡ abs_diff (r.amount * one) (s * 1) * c
    gap =
        ap₂ abs_diff (ap (λ n. r.amount * n) over ∙ sym (mul_assoc r.amount one c)) (amount ∙ ap (λ n. n * c) (sym (mul-one s)))
        ∙ abs_diff-times (r.amount * one) (s * 1) c

    by-gap : (abs_diff (r.amount * one) (s * 1) ≡ 0) ⊎ ((abs_diff (r.amount * one) (s * 1) < 0) ⊎ (0 < abs_diff (r.amount * one) (s * 1))) →
        ((abs_diff (r.amount * one) (s * 1) ≡ 0) × (abs_diff (r.amount * o) (a * m) ≡ 0))
        ⊎ ((0 < abs_diff (r.amount * one) (s * 1)) × (0 < abs_diff (r.amount * o) (a * m)))
    by-gap (inl none) = inl (none, gap ∙ ap (λ n. n * c) none ∙ omega arith)
    by-gap (inr (inl less)) = absurd (omega (arith, less))
    by-gap (inr (inr more)) = inr (more, let all = product-some (abs_diff (r.amount * one) (s * 1)) c more some in omega (arith, all, gap))

-- where nothing is rounded
pub whole-nearest : (a o m n : ℕ) → 0 < o → n * o ≡ a * m → IsNearestAmount a o m n
whole-nearest a o m n some same = record { near = omega (arith, same); even = λ tie. absurd (omega (arith, same, tie, some)) }

pub whole-changed : (a o m n : ℕ) → n * o ≡ a * m → false ≡ not (nat_eq (abs_diff (n * o) (a * m)) 0)
whole-changed a o m n same = let none : 0 ≡ abs_diff (n * o) (a * m) = omega (arith, same) in ap (λ d. not (nat_eq d 0)) none

-- a significand doubled so often, over units and over the grid
module _ (s d u g : ℕ) where
  joined : s * 2 ^ d * 2 ^ g ≡ s * 2 ^ (d + g)
  joined = mul_assoc s (2 ^ d) (2 ^ g) ∙ ap (λ n. s * n) (sym (pow-add 2 d g))

  pub down-rounding : (r : Rounded) → d + g < u → IsRounding s (2 ^ (u - (d + g))) 1 r → IsRounding (s * 2 ^ d) (2 ^ u) (2 ^ g) r
  down-rounding r less =
      scaled-rounding s (2 ^ (u - (d + g))) (s * 2 ^ d) (2 ^ u) (2 ^ g) (2 ^ (d + g)) r (pow_pos (d + g))
      (ap (λ n. 2 ^ n) (omega (arith, less)) ∙ pow-add 2 (u - (d + g)) (d + g)) joined

  up-whole : (n : ℕ) → u ≤ d + g → n ≡ s * 2 ^ (d + g - u) → n * 2 ^ u ≡ s * 2 ^ d * 2 ^ g
  up-whole n more is =
      ap (λ m. m * 2 ^ u) is ∙ mul_assoc s (2 ^ (d + g - u)) (2 ^ u) ∙ ap (λ m. s * m) (sym (pow-add 2 (d + g - u) u) ∙ ap (λ m. 2 ^ m) (omega (arith, more)))
      ∙ sym joined

  pub up-rounding : (r : Rounded) → u ≤ d + g → r.amount ≡ s * 2 ^ (d + g - u) → r.amount < 2 ^ 127 → r.changed ≡ false → IsRounding (s * 2 ^ d) (2 ^ u) (2 ^ g) r
  up-rounding r more is fits same = record {
    nearest = whole-nearest (s * 2 ^ d) (2 ^ u) (2 ^ g) r.amount (pow_pos u) (up-whole r.amount more is);
    fits = fits;
    changed = same ∙ whole-changed (s * 2 ^ d) (2 ^ u) (2 ^ g) r.amount (up-whole r.amount more is);
  }

  pub up-far : u ≤ d + g → 2 ^ 127 ≤ s * 2 ^ (d + g - u) → IsFarAmount (s * 2 ^ d) (2 ^ u) (2 ^ g)
  up-far more large = record {
    n = s * 2 ^ (d + g - u);
    nearest = whole-nearest (s * 2 ^ d) (2 ^ u) (2 ^ g) (s * 2 ^ (d + g - u)) (pow_pos u) (up-whole (s * 2 ^ (d + g - u)) more refl);
    large = large;
  }
