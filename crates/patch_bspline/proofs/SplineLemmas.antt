-- The weights of the uniform cubic B-spline, as products.
use Rattle.std.proofs.Common.{◌≡◌, ℕ, ◌+◌, ◌-◌, ◌*◌, ◌^◌, ◌≤◌, [], ◌∷◌, arith, refl, ap, sym, subst, ◌∙◌}
use Rattle.std.specs.List.{sum_by}
use Rattle.std.proofs.lemmas.List.Sums.{sum_by-cons}
use Rattle.std.proofs.Math.Nat.{one-mul, pow-suc, pow-zero}
use Rattle.subdiv_model.specs.Patch.{spline_weights}

square-is : (x : ℕ) → x ^ 2 ≡ x * x
square-is x = pow-suc x 1 ∙ ap (λ n. n * x) (pow-suc x 0 ∙ ap (λ n. n * x) (pow-zero x) ∙ one-mul x)

pub cube-is : (x : ℕ) → x ^ 3 ≡ x * x * x
cube-is x = pow-suc x 2 ∙ ap (λ n. n * x) (square-is x)

pub sixth-is : (x : ℕ) → x ^ 6 ≡ x ^ 3 * x ^ 3
sixth-is x =
    pow-suc x 5 ∙ ap (λ n. n * x) (pow-suc x 4 ∙ ap (λ n. n * x) (pow-suc x 3 ∙ ap (λ n. n * x) (cube-is x)))
    ∙ regroup x ∙ sym (ap (λ n. n * n) (cube-is x))
  where
    regroup : (x : ℕ) → x * x * x * x * x * x ≡ (x * x * x) * (x * x * x)
    regroup x = omega arith

-- with m as a sum of i and a rest
split : (P : ℕ → Type 0) (m i : ℕ) → i ≤ m → P (i + (m - i)) → P m
split P m i h p = let e : i + (m - i) ≡ m = omega (arith, h) in subst P e p

pub second-fits : (m i : ℕ) → i ≤ m → 6 * (i * i * m) ≤ 3 * (i * i * i) + 4 * (m * m * m)
second-fits m i h = split (λ n. 6 * (i * i * n) ≤ 3 * (i * i * i) + 4 * (n * n * n)) m i h (there i (m - i))
  where
    there : (i d : ℕ) → 6 * (i * i * (i + d)) ≤ 3 * (i * i * i) + 4 * ((i + d) * (i + d) * (i + d))
    there i d = omega arith

third-fits : (m i : ℕ) → i ≤ m → 3 * (i * i * i) ≤ 3 * (i * i * m) + 3 * (i * m * m) + m * m * m
third-fits m i h = split (λ n. 3 * (i * i * i) ≤ 3 * (i * i * n) + 3 * (i * n * n) + n * n * n) m i h (there i (m - i))
  where
    there : (i d : ℕ) → 3 * (i * i * i) ≤ 3 * (i * i * (i + d)) + 3 * (i * (i + d) * (i + d)) + (i + d) * (i + d) * (i + d)
    there i d = omega arith

first-there : (m i : ℕ) → i ≤ m → (m - i) * (m - i) * (m - i) + 3 * (i * m * m) + i * i * i ≡ m * m * m + 3 * (i * i * m)
first-there m i h =
    let e : m ≡ i + (m - i) = omega (arith, h) in
    ap (λ n. (m - i) * (m - i) * (m - i) + 3 * (i * n * n) + i * i * i) e ∙ there i (m - i) ∙ sym (ap (λ n. n * n * n + 3 * (i * i * n)) e)
  where
    there : (i d : ℕ) → d * d * d + 3 * (i * (i + d) * (i + d)) + i * i * i ≡ (i + d) * (i + d) * (i + d) + 3 * (i * i * (i + d))
    there i d = omega arith

squared : (i m : ℕ) → i ^ 2 * m ≡ i * i * m
squared i m = ap (λ n. n * m) (square-is i)

single : (i m : ℕ) → i * m ^ 2 ≡ i * m * m
single i m = ap (λ n. i * n) (square-is m) ∙ regroup i m
  where
    regroup : (i m : ℕ) → i * (m * m) ≡ i * m * m
    regroup i m = omega arith

second-with : (m i a w s : ℕ) → a ≡ i * i * i → w ≡ m * m * m → s ≡ i * i * m → 3 * a + 4 * w - 6 * s ≡ 3 * i ^ 3 + 4 * m ^ 3 - 6 * i ^ 2 * m
second-with m i a w s ea ew es =
    let fa : a ≡ i ^ 3 = ea ∙ sym (cube-is i) in
    let fw : w ≡ m ^ 3 = ew ∙ sym (cube-is m) in
    let fs : 6 * s ≡ 6 * i ^ 2 * m = ap (λ n. 6 * n) (es ∙ sym (squared i m)) ∙ regroup (i ^ 2) m in
    ap (λ n. 3 * n + 4 * w - 6 * s) fa ∙ ap (λ n. 3 * i ^ 3 + 4 * n - 6 * s) fw ∙ ap (λ n. 3 * i ^ 3 + 4 * m ^ 3 - n) fs
  where
    regroup : (x m : ℕ) → 6 * (x * m) ≡ 6 * x * m
    regroup x m = omega arith

third-with : (m i a w s t : ℕ) → a ≡ i * i * i → w ≡ m * m * m → s ≡ i * i * m → t ≡ i * m * m
    → 3 * s + 3 * t + w - 3 * a ≡ 3 * i ^ 2 * m + 3 * i * m ^ 2 + m ^ 3 - 3 * i ^ 3
third-with m i a w s t ea ew es et =
    let fa : a ≡ i ^ 3 = ea ∙ sym (cube-is i) in
    let fw : w ≡ m ^ 3 = ew ∙ sym (cube-is m) in
    let fs : 3 * s ≡ 3 * i ^ 2 * m = ap (λ n. 3 * n) (es ∙ sym (squared i m)) ∙ regroup (i ^ 2) m in
    let ft : 3 * t ≡ 3 * i * m ^ 2 = ap (λ n. 3 * n) (et ∙ sym (single i m)) ∙ regroup i (m ^ 2) in
    ap (λ n. n + 3 * t + w - 3 * a) fs ∙ ap (λ n. 3 * i ^ 2 * m + n + w - 3 * a) ft
    ∙ ap (λ n. 3 * i ^ 2 * m + 3 * i * m ^ 2 + n - 3 * a) fw ∙ ap (λ n. 3 * i ^ 2 * m + 3 * i * m ^ 2 + m ^ 3 - 3 * n) fa
  where
    regroup : (x m : ℕ) → 3 * (x * m) ≡ 3 * x * m
    regroup x m = omega arith

pub second-is : (m i a w s : ℕ) → a ≡ i * i * i → w ≡ m * m * m → s ≡ i * i * m → 3 * a + 4 * w - 6 * s ≡ 3 * i ^ 3 + 4 * m ^ 3 - 6 * i ^ 2 * m
second-is = second-with

pub third-is : (m i a w s t : ℕ) → a ≡ i * i * i → w ≡ m * m * m → s ≡ i * i * m → t ≡ i * m * m
    → 3 * s + 3 * t + w - 3 * a ≡ 3 * i ^ 2 * m + 3 * i * m ^ 2 + m ^ 3 - 3 * i ^ 3
third-is = third-with

-- the weights sum to their denominator
pub weights-total : (m i : ℕ) → i ≤ m → sum_by (λ w. w) (spline_weights m i) ≡ 6 * m ^ 3
weights-total m i h =
    let second = second-with m i (i * i * i) (m * m * m) (i * i * m) refl refl refl in
    let third = third-with m i (i * i * i) (m * m * m) (i * i * m) (i * m * m) refl refl refl refl in
    four-sum ((m - i) ^ 3) (3 * i ^ 3 + 4 * m ^ 3 - 6 * i ^ 2 * m) (3 * i ^ 2 * m + 3 * i * m ^ 2 + m ^ 3 - 3 * i ^ 3) (i ^ 3)
    ∙ whole ((m - i) ^ 3) _ _ (i ^ 3) (m ^ 3) (i * i * i) (m * m * m) (i * i * m) (i * m * m) ((m - i) * (m - i) * (m - i)) (cube-is (m - i)) (sym second) (sym third)
    (cube-is i) (cube-is m) (second-fits m i h) (third-fits m i h) (first-there m i h)
  where
    four-sum : (a b c d : ℕ) → sum_by (λ w. w) (a ∷ b ∷ c ∷ d ∷ []) ≡ a + b + c + d
    four-sum a b c d =
        omega (
          arith,
          sum_by-cons (λ (w : ℕ). w) a (b ∷ c ∷ d ∷ []),
          sum_by-cons (λ (w : ℕ). w) b (c ∷ d ∷ []),
          sum_by-cons (λ (w : ℕ). w) c (d ∷ []),
          sum_by-cons (λ (w : ℕ). w) d [],
        )

    whole : (first second third fourth all a w s t d : ℕ) → first ≡ d → second ≡ 3 * a + 4 * w - 6 * s → third ≡ 3 * s + 3 * t + w - 3 * a → fourth ≡ a
        → all ≡ w → 6 * s ≤ 3 * a + 4 * w → 3 * a ≤ 3 * s + 3 * t + w → d + 3 * t + a ≡ w + 3 * s → first + second + third + fourth ≡ 6 * all
    whole first second third fourth all a w s t d e1 e2 e3 e4 e5 h k e = omega arith
