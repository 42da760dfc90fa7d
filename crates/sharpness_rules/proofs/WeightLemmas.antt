-- The mean of values.
use Rattle.std.proofs.Common.{◌≡◌, ℕ, zero, suc, ◌*◌, ◌/◌, ◌^◌, ◌<◌, ◌≤◌, arith, sym, ap, ◌∙◌, nat_le, true, List, [], ◌∷◌, length}
use Rattle.std.specs.Int.{◌∣◌}
use Rattle.std.specs.List.{sum_by}
use Rattle.std.proofs.lemmas.Bool.{cond-true, le-leb, lt-ltb}
use Rattle.std.proofs.lemmas.List.Sums.{sum_by-cons}
use Rattle.std.proofs.lemmas.Nat.Gcd.{dvd_trans}
use Rattle.std.proofs.Math.Nat.{mul-pos, zero-mul, mul-le-mul_right, div-mul_cancel}
use Rattle.subdiv_model.specs.Fractions.{lowest, sum_of_fractions}
use Rattle.subdiv_model.specs.Multiples.{common_denominator}
use Rattle.subdiv_model.specs.Rule.{mean_of, at_most_one}
use Rattle.subdiv_model.specs.Sharpness.{is_too_fine}
use Rattle.sharpness_rules.specs.declared.total.Total.{Total}
use Rattle.sharpness_rules.specs.Totals.{IsTotal, parts_over}
use Rattle.sharpness_rules.proofs.MultipleLemmas.{AreProper, lcm_of-is, too_fine-some}
use Rattle.sharpness_rules.proofs.PartLemmas.{sum-same}
use Rattle.sharpness_rules.proofs.HalfLemmas.{sum-positive, total-common}
use Rattle.sharpness_rules.proofs.SharpnessLemmas.{at_most_one-same}

-- The mean of values that are too fine is too fine.
pub mean-too_fine : (values : List (ℕ × ℕ)) → 2 ^ 60 < common_denominator values
    → is_too_fine (length values * common_denominator values) ≡ true
mean-too_fine values passed =
    let some : 1 ≤ length values = too_fine-some values passed in
    let times : 1 * common_denominator values ≤ length values * common_denominator values = mul-le-mul_right (common_denominator values) some in
    lt-ltb (2 ^ 60) _ (omega arith)

crossed : (num count den s d len : ℕ) → s * den ≡ num * d → count ≡ len → num * (d * len) ≡ s * (count * den)
crossed num count den s d len all same = omega (arith, ap (λ n. n * len) all, ap (λ n. s * (n * den)) same)

-- The code computes the mean of the definition.
pub mean-value : (values : List (ℕ × ℕ)) (total : Total) → AreProper values → IsTotal values total
    → at_most_one (total.num, total.count * total.den) ≡ at_most_one (mean_of values)
mean-value [] total proper is =
    let none : total.count * total.den ≡ 0 = ap (λ n. n * total.den) is.count ∙ zero-mul total.den in
    cond-true (nat_le (total.count * total.den) total.num) (1, 1) (lowest (total.num, total.count * total.den)) (le-leb (total.count * total.den) total.num (omega arith))
mean-value (x ∷ xs) total proper is =
    let some : 0 < total.count = omega (arith, is.count) in
    let long : 0 < length (x ∷ xs) = omega arith in
    let all : (sum_of_fractions (x ∷ xs)).0 * total.den ≡ total.num * (sum_of_fractions (x ∷ xs)).1 = sum-same (x ∷ xs) total.den (total-common (x ∷ xs) total is) ∙ ap (λ n. n * (sum_of_fractions (x ∷ xs)).1) (sym is.num) in
    at_most_one-same total.num (total.count * total.den) (sum_of_fractions (x ∷ xs)).0 ((sum_of_fractions (x ∷ xs)).1 * length (x ∷ xs)) (mul-pos some total.positive) (mul-pos (sum-positive (x ∷ xs) proper) long)
    (crossed total.num total.count total.den (sum_of_fractions (x ∷ xs)).0 (sum_of_fractions (x ∷ xs)).1 (length (x ∷ xs)) all is.count)

-- values above 0 have a sum above 0
sum-above : (values : List (ℕ × ℕ)) (den : ℕ) → AreProper values → 0 < den → common_denominator values ∣ den → 0 < length values
    → 0 < sum_by (parts_over den) values
sum-above [] den proper above common some = absurd (omega arith)
sum-above (x ∷ xs) den proper above common some =
    let whole : den / x.1 * x.1 ≡ den = div-mul_cancel x.1 (dvd_trans x.1 (lcm_of-is x.1 (common_denominator xs)).first common) in
    let part : 0 < x.0 * (den / x.1) = mul-pos proper.0.above (nonzero (den / x.1) whole) in
    omega (arith, sum_by-cons (parts_over den) x xs, part)
  where
    nonzero : (q : ℕ) → q * x.1 ≡ den → 0 < q
    nonzero zero e = let none : 0 ≡ den = sym (zero-mul x.1) ∙ e in absurd (omega arith)
    nonzero (suc q) e = omega arith

pub total-above : (values : List (ℕ × ℕ)) (total : Total) → AreProper values → IsTotal values total → 0 < total.count → 0 < total.num
total-above values total proper is some =
    let above = sum-above values total.den proper total.positive (total-common values total is) (omega (arith, is.count)) in omega (arith, above, is.num)

pub factor-positive : (a b : ℕ) → 0 < a * b → 0 < a
factor-positive zero b h = let none : 0 * b ≡ 0 = zero-mul b in absurd (omega arith)
factor-positive (suc a) b h = omega arith
