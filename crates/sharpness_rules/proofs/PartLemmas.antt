-- Values in parts over a common denominator, and their sum.
use Rattle.std.proofs.Common.{◌≡◌, ℕ, ◌+◌, ◌*◌, ◌/◌, ◌<◌, ◌≤◌, arith, sym, ap, ◌∙◌, List, [], ◌∷◌}
use Rattle.std.specs.Int.{◌∣◌}
use Rattle.std.specs.List.{sum_by}
use Rattle.std.proofs.lemmas.Nat.Gcd.{dvd_trans}
use Rattle.std.proofs.lemmas.List.Sums.{sum_by-cons}
use Rattle.std.proofs.Math.Nat.{mul_assoc, mul_comm, mul-div_assoc, div-mul_cancel, mul-div-le, mul-le-mul_right}
use Rattle.subdiv_model.specs.Fractions.{sum_of_fractions}
use Rattle.subdiv_model.specs.Multiples.{common_denominator}
use Rattle.sharpness_rules.specs.Totals.{parts_over}
use Rattle.sharpness_rules.proofs.MultipleLemmas.{lcm_of-is}

-- over a multiple of the denominator there are as many times the parts
parts-more : (x : ℕ × ℕ) (den more : ℕ) → x.1 ∣ den → den ∣ more → parts_over more x ≡ parts_over den x * (more / den)
parts-more x den more p q =
    let split : more / x.1 ≡ more / den * (den / x.1) = ap (λ n. n / x.1) (sym (div-mul_cancel den q)) ∙ mul-div_assoc x.1 (more / den) p in
    ap (λ n. x.0 * n) (split ∙ mul_comm (more / den) (den / x.1)) ∙ sym (mul_assoc x.0 (den / x.1) (more / den))

-- the first value of a list, and the others
head-divides : (x : ℕ × ℕ) (xs : List (ℕ × ℕ)) (den : ℕ) → common_denominator (x ∷ xs) ∣ den → x.1 ∣ den
head-divides x xs den h = dvd_trans x.1 (lcm_of-is x.1 (common_denominator xs)).first h

rest-divides : (x : ℕ × ℕ) (xs : List (ℕ × ℕ)) (den : ℕ) → common_denominator (x ∷ xs) ∣ den → common_denominator xs ∣ den
rest-divides x xs den h = dvd_trans (common_denominator xs) (lcm_of-is x.1 (common_denominator xs)).second h

pub sum-more : (values : List (ℕ × ℕ)) (den more : ℕ) → common_denominator values ∣ den → den ∣ more
    → sum_by (parts_over more) values ≡ sum_by (parts_over den) values * (more / den)
sum-more [] den more p q = omega arith
sum-more (x ∷ xs) den more p q =
    let here = parts-more x den more (head-divides x xs den p) q in
    let rest = sum-more xs den more (rest-divides x xs den p) q in
    omega (arith, sum_by-cons (parts_over more) x xs, sum_by-cons (parts_over den) x xs, ap (λ n. n * (more / den)) (sum_by-cons (parts_over den) x xs), here, rest)

-- a value below 10 has at most 10 times the denominator
pub parts-bounded : (x : ℕ × ℕ) (den : ℕ) → x.0 < 10 * x.1 → parts_over den x ≤ 10 * den
parts-bounded x den below =
    let within : x.1 * (den / x.1) ≤ den = mul-div-le den x.1 in
    let most : x.0 * (den / x.1) ≤ 10 * x.1 * (den / x.1) = mul-le-mul_right (den / x.1) (omega arith) in
    omega (arith, within, most)

sum-step : (a b n d q s den : ℕ) → q * b ≡ den → n * den ≡ s * d → (a * d + n * b) * den ≡ (a * q + s) * (b * d)
sum-step a b n d q s den whole rest =
    omega (arith, ap (λ m. a * d * m) whole, ap (λ m. m * b) rest)

-- the sum over the denominator is the sum of the fractions
pub sum-same : (values : List (ℕ × ℕ)) (den : ℕ) → common_denominator values ∣ den
    → (sum_of_fractions values).0 * den ≡ sum_by (parts_over den) values * (sum_of_fractions values).1
sum-same [] den p = omega arith
sum-same (x ∷ xs) den p =
    let rest = sum-same xs den (rest-divides x xs den p) in
    let whole : den / x.1 * x.1 ≡ den = div-mul_cancel x.1 (head-divides x xs den p) in
    sum-step x.0 x.1 (sum_of_fractions xs).0 (sum_of_fractions xs).1 (den / x.1) (sum_by (parts_over den) xs) den whole rest
    ∙ ap (λ n. n * (x.1 * (sum_of_fractions xs).1)) (sym (sum_by-cons (parts_over den) x xs))
