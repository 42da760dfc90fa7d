-- Which size is nearest.
use Rattle.std.proofs.Common.{◌≡◌, ◌⊎◌, ℕ, suc, ◌+◌, ◌-◌, ◌*◌, ◌%◌, ◌<◌, ◌≤◌, inl, inr, arith, ap, ap₂, sym, ◌∙◌}
use Rattle.std.specs.Int.{abs_diff}
use Rattle.std.proofs.lemmas.Bool.{cases_lt, cases_order}
use Rattle.std.proofs.Math.Nat.{mul_comm, mul_right_comm, add-mul, mul-le-mul_right, mul-lt-mul_of_pos_right, le_of_mul-le-mul_right, eq_of_mul-eq-mul_right, mul-sub}
use Rattle.nearest_float.specs.Binary.{units}
use Rattle.nearest_float.specs.Scaled.{IsNearestSize, far}
use Rattle.nearest_float.proofs.UnitLemmas.{units-below, units-within}

-- the lower of the two sizes around x / y
pub nearest-below : (p x y k : ℕ) → 0 < y → units p k * y ≤ x → 2 * x ≤ units p k * y + units p (suc k) * y →
    (2 * x ≡ units p k * y + units p (suc k) * y → k % 2 ≡ 0) → IsNearestSize p x y k
nearest-below p x y k some from half tie = record { nearest = λ other. near other (cases_lt k other); even = λ other same. as-near other (cases_order other k) same }
  where
    over : (other : ℕ) → k < other → units p (suc k) * y ≤ units p other * y
    over other more = mul-le-mul_right y (units-within p (suc k) other (omega arith))

    near : (other : ℕ) → (k < other) ⊎ (other ≤ k) → far p x y k ≤ far p x y other
    near other (inl more) = let far-over = over other more in omega (arith, far-over)
    near other (inr less) = let under : units p other * y ≤ units p k * y = mul-le-mul_right y (units-within p other k less) in omega (arith, under)

    as-near : (other : ℕ) → (other ≡ k) ⊎ ((other < k) ⊎ (k < other)) → far p x y other ≡ far p x y k → (other ≡ k) ⊎ (k % 2 ≡ 0)
    as-near other (inl same) e = inl same
    as-near other (inr (inl less)) e =
        let under : units p other * y < units p k * y = mul-lt-mul_of_pos_right (units-below p other k less) some in absurd (omega (arith, under, e))
    as-near other (inr (inr more)) e = let far-over = over other more in inr (tie (omega (arith, far-over, e)))

-- the upper one
pub nearest-above : (p x y k : ℕ) → 0 < y → x ≤ units p (suc k) * y → units p k * y + units p (suc k) * y ≤ 2 * x →
    (2 * x ≡ units p k * y + units p (suc k) * y → suc k % 2 ≡ 0) → IsNearestSize p x y (suc k)
nearest-above p x y k some to half tie = record { nearest = λ other. near other (cases_lt k other); even = λ other same. as-near other (cases_order other (suc k)) same }
  where
    under : (other : ℕ) → other ≤ k → units p other * y ≤ units p k * y
    under other less = mul-le-mul_right y (units-within p other k less)

    near : (other : ℕ) → (k < other) ⊎ (other ≤ k) → far p x y (suc k) ≤ far p x y other
    near other (inl more) = let over : units p (suc k) * y ≤ units p other * y = mul-le-mul_right y (units-within p (suc k) other (omega arith)) in omega (arith, over)
    near other (inr less) = let far-under = under other less in omega (arith, far-under)

    as-near : (other : ℕ) → (other ≡ suc k) ⊎ ((other < suc k) ⊎ (suc k < other)) → far p x y other ≡ far p x y (suc k) → (other ≡ suc k) ⊎ (suc k % 2 ≡ 0)
    as-near other (inl same) e = inl same
    as-near other (inr (inl less)) e = let far-under = under other (omega arith) in inr (tie (omega (arith, far-under, e)))
    as-near other (inr (inr more)) e =
        let over : units p (suc k) * y < units p other * y = mul-lt-mul_of_pos_right (units-below p (suc k) other more) some in absurd (omega (arith, over, e))

abs_diff-times : (a b n : ℕ) → abs_diff a b * n ≡ abs_diff (a * n) (b * n)
abs_diff-times a b n = add-mul (a - b) (b - a) n ∙ ap₂ (λ i j. i + j) (part a b) (part b a)
  where
    part : (i j : ℕ) → (i - j) * n ≡ i * n - j * n
    part i j = mul_comm (i - j) n ∙ mul-sub n i j ∙ ap₂ (λ k l. k - l) (mul_comm n i) (mul_comm n j)

-- A fraction has the same nearest size in any terms.
pub nearest-same : (p x y z b size : ℕ) → 0 < y → 0 < b → x * b ≡ z * y → IsNearestSize p z b size → IsNearestSize p x y size
nearest-same p x y z b size some positive same near = record {
  nearest = λ other. le_of_mul-le-mul_right
      (let scaled : far p z b size * y ≤ far p z b other * y = mul-le-mul_right y (near.nearest other) in omega (arith, scaled, crossed size, crossed other)) positive;
  even = λ other e. near.even other
      (eq_of_mul-eq-mul_right y some _ _ (sym (crossed other) ∙ ap (λ n. n * b) e ∙ crossed size));
}
  where
    crossed : (c : ℕ) → far p x y c * b ≡ far p z b c * y
    crossed c =
        abs_diff-times x (units p c * y) b
        ∙ ap₂ abs_diff same (mul_right_comm (units p c) y b)
        ∙ sym (abs_diff-times z (units p c * b) y)
