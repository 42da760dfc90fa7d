-- The half of an edge by the chaikin rule, over its stated denominator.
use Rattle.std.proofs.Common.{◌≡◌, ℕ, ◌+◌, ◌-◌, ◌*◌, ◌/◌, ◌^◌, ◌<◌, ◌≤◌, arith, sym, ap, subst, ◌∙◌, List, [], ◌∷◌, length, nat_le}
use Rattle.std.specs.Int.{◌∣◌}
use Rattle.std.proofs.lemmas.Bool.{cond-true, le-leb}
use Rattle.std.proofs.lemmas.Nat.Gcd.{dvd_refl}
use Rattle.std.proofs.Math.Nat.{mul-sub, mul-pos, mul-le-mul_left, mul-le-mul_right, div-mul_cancel}
use Rattle.subdiv_model.specs.Fractions.{plus_fraction, minus_fraction, times_fraction, sum_of_fractions}
use Rattle.subdiv_model.specs.Multiples.{common_denominator}
use Rattle.subdiv_model.specs.Sharpness.{sharpness_of_fraction, chaikin_value, chaikin_half, uniform_child, semi_of}
use Rattle.sharpness_rules.specs.declared.total.Total.{Total}
use Rattle.sharpness_rules.specs.declared.shares.Shares.{Shares}
use Rattle.sharpness_rules.specs.Totals.{IsTotal, parts_over}
use Rattle.sharpness_rules.proofs.MultipleLemmas.{AreProper}
use Rattle.sharpness_rules.proofs.PartLemmas.{sum-same}
use Rattle.sharpness_rules.proofs.SharpnessLemmas.{sharpness_of-same}

-- the sum that a half is made of stays below 16 times the greatest denominator
pub shares-bounded : (shares : Shares) (own : ℕ) → own ≤ 10 * shares.total.den
    → 3 * (shares.total.count - 1) * own + (shares.total.num - own) < 2 ^ 64
shares-bounded shares own h =
    bounded shares.total.count (shares.total.count - 1) own shares.total.num shares.total.den shares.den (omega arith) (omega arith) h shares.total.bounded shares.product shares.short
  where
    bounded : (count others own num den whole : ℕ) → count ≡ others + 1 → 1 ≤ others → own ≤ 10 * den → num ≤ 10 * (count * den)
        → whole ≡ 4 * others * den → whole ≤ 2 ^ 60 → 3 * others * own + (num - own) < 2 ^ 64
    bounded count others own num den whole e some h k same short =
        let mine : 3 * others * own ≤ 3 * others * (10 * den) = mul-le-mul_left (3 * others) h in
        let one : 1 * den ≤ others * den = mul-le-mul_right den some in
        let all : count * den ≡ (others + 1) * den = ap (λ n. n * den) e in
        omega (arith, mine, one, all)

-- The denominator of the halves is above 0.
pub shares-positive : (shares : Shares) → 0 < shares.den
shares-positive shares =
    let some : 0 < 4 * (shares.total.count - 1) = omega (arith, shares.several) in
    let above : 0 < 4 * (shares.total.count - 1) * shares.total.den = mul-pos some shares.total.positive in
    omega (arith, above, shares.product)

-- the fraction is n / m
record IsOver (x : ℕ × ℕ) (n m : ℕ) : Type 0 where
  crossed : x.0 * m ≡ n * x.1

times-over : (a b : ℕ) (x : ℕ × ℕ) (n m : ℕ) → IsOver x n m → IsOver (times_fraction (a, b) x) (a * n) (b * m)
times-over a b x n m h = record { crossed = omega (arith, ap (λ z. a * b * z) h.crossed) }

scaled-over : (k : ℕ) (x : ℕ × ℕ) (n m : ℕ) → IsOver x n m → IsOver x (k * n) (k * m)
scaled-over k x n m h = record { crossed = omega (arith, ap (λ z. k * z) h.crossed) }

same-over : (x : ℕ × ℕ) (n m k l : ℕ) → IsOver x n m → n ≡ k → m ≡ l → IsOver x k l
same-over x n m k l h e f = record { crossed = ap (λ z. x.0 * z) (sym f) ∙ h.crossed ∙ ap (λ z. z * x.1) e }

plus-over : (x y : ℕ × ℕ) (n k m : ℕ) → IsOver x n m → IsOver y k m → IsOver (plus_fraction x y) (n + k) m
plus-over x y n k m p q = record { crossed = omega (arith, ap (λ z. z * y.1) p.crossed, ap (λ z. z * x.1) q.crossed) }

minus-over : (x y : ℕ × ℕ) (n k m : ℕ) → IsOver x n m → IsOver y k m → IsOver (minus_fraction x y) (n - k) m
minus-over x y n k m p q =
    let left : m * (x.0 * y.1) ≡ x.1 * y.1 * n = omega (arith, ap (λ z. z * y.1) p.crossed) in
    let right : m * (y.0 * x.1) ≡ x.1 * y.1 * k = omega (arith, ap (λ z. z * x.1) q.crossed) in
    let first : (x.0 * y.1 - y.0 * x.1) * m ≡ m * (x.0 * y.1 - y.0 * x.1) = omega arith in
    let last : x.1 * y.1 * (n - k) ≡ (n - k) * (x.1 * y.1) = omega arith in
    record {
      crossed = first ∙ mul-sub m (x.0 * y.1) (y.0 * x.1)
          ∙ ap (λ z. z - m * (y.0 * x.1)) left
          ∙ ap (λ z. x.1 * y.1 * n - z) right
          ∙ sym (mul-sub (x.1 * y.1) n k)
          ∙ last;
    }

value-over : (x : ℕ × ℕ) (den : ℕ) → x.1 ∣ den → IsOver x (parts_over den x) den
value-over x den h =
    let whole : den / x.1 * x.1 ≡ den = div-mul_cancel x.1 h in record { crossed = omega (arith, ap (λ z. x.0 * z) whole) }

-- the half of one of `others + 1` values, whose sum is num / den
half-over : (x sum : ℕ × ℕ) (others own num den : ℕ) → IsOver x own den → IsOver sum num den
    → IsOver (chaikin_value x sum (others + 1)) (3 * others * own + (num - own) - 4 * others * den) (4 * others * den)
half-over x sum others own num den mine all =
    let less : others + 1 - 1 ≡ others = omega arith in
    let first : IsOver (times_fraction (3, 4) x) (3 * others * own) (4 * others * den) = same-over _ _ _ _ _ (scaled-over others _ _ _ (times-over 3 4 x own den mine)) (omega arith) (omega arith) in
    let rest : IsOver (times_fraction (1, 4 * others) (minus_fraction sum x)) (num - own) (4 * others * den) = same-over _ _ _ _ _ (times-over 1 (4 * others) _ _ _ (minus-over sum x num own den all mine)) (omega arith) (omega arith) in
    let one : IsOver (1, 1) (4 * others * den) (4 * others * den) = record { crossed = omega arith } in
    let P : ℕ → Type 0 = λ k. IsOver (minus_fraction (plus_fraction (times_fraction (3, 4) x) (times_fraction (1, 4 * k) (minus_fraction sum x))) (1, 1)) (3 * others * own + (num - own) - 4 * others * den) (4 * others * den) in
    subst P (sym less) (minus-over _ (1, 1) _ _ _ (plus-over _ _ _ _ _ first rest) one)

pub sum-positive : (values : List (ℕ × ℕ)) → AreProper values → 0 < (sum_of_fractions values).1
sum-positive [] p = omega arith
sum-positive (x ∷ xs) p = mul-pos p.0.positive (sum-positive xs p.1)

-- a total is over a multiple of each denominator
pub total-common : (values : List (ℕ × ℕ)) (total : Total) → IsTotal values total → common_denominator values ∣ total.den
total-common values total is = let P : ℕ → Type 0 = λ m. m ∣ total.den in subst P is.den (dvd_refl total.den)

-- The code computes the half of the definition.
pub half-value : (values : List (ℕ × ℕ)) (x : ℕ × ℕ) (total : Total) → AreProper values → 0 < x.1 → x.1 ∣ total.den
    → IsTotal values total → 2 ≤ total.count
    → sharpness_of_fraction (3 * (total.count - 1) * parts_over total.den x + (total.num - parts_over total.den x) - 4 * (total.count - 1) * total.den, 4 * (total.count - 1) * total.den) ≡ chaikin_half values x
half-value values x total proper positive divides is several =
    let next : total.count - 1 + 1 ≡ length values = omega (arith, is.count) in
    let all : IsOver (sum_of_fractions values) total.num total.den = record { crossed = sum-same values total.den (total-common values total is) ∙ ap (λ n. n * (sum_of_fractions values).1) (sym is.num) } in
    let half = half-over x (sum_of_fractions values) (total.count - 1) (parts_over total.den x) total.num total.den (value-over x total.den divides) all in
    let some : 0 < 4 * (total.count - 1) = omega arith in
    let here : 0 < 4 * (total.count - 1) * total.den = mul-pos some total.positive in
    let four : 0 < 4 * x.1 = omega arith in
    let more : 0 < 4 * (total.count - 1 + 1 - 1) = omega arith in
    let one : 0 < 1 = omega arith in
    let there : 0 < (chaikin_value x (sum_of_fractions values) (total.count - 1 + 1)).1 = mul-pos (mul-pos four (mul-pos more (mul-pos (sum-positive values proper) positive))) one in
    sharpness_of-same _ _ _ _ here there (sym half.crossed)
    ∙ ap (λ n. sharpness_of_fraction (chaikin_value x (sum_of_fractions values) n)) next
    ∙ sym (cond-true (nat_le 2 (length values)) (sharpness_of_fraction (chaikin_value x (sum_of_fractions values) (length values))) (uniform_child (semi_of x)) (le-leb 2 (length values) (omega (arith, is.count))))
