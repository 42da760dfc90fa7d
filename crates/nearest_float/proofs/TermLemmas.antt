-- Lowest terms of an odd number times a power of two, over a power of two.
use Rattle.std.proofs.Common.{◌≡◌, ℕ, ◌+◌, ◌-◌, ◌*◌, ◌%◌, ◌^◌, ◌<◌, ◌≤◌, Option, arith, ap, sym, ◌∙◌, subst, pow_pos, pow_mono}
use Rattle.std.specs.Int.{IsGcd, ◌∣◌}
use Rattle.std.proofs.lemmas.Nat.{pow-add}
use Rattle.std.proofs.lemmas.Nat.Gcd.{le_of_dvd}
use Rattle.std.proofs.Math.Nat.{mul_assoc, mul_comm, mul-one, mul-le-mul_right, mul-le-mul_left, mul-lt-mul_of_pos_right, eq_of_mul-eq-mul_right, dvd-mul_left}
use Rattle.subdiv_model.specs.Fractions.{gcd_of}
use Rattle.number_laws.proofs.FractionLemmas.{gcd_of-is}
use Rattle.number_laws.proofs.DivisorLemmas.{gcd-scaled}
use Rattle.number_laws.proofs.CoprimeLemmas.{coprime-gcd, coprime-power, coprime-two, coprime-one}
use Rattle.nearest_float.specs.Terms.{AreLowest, AreTermsOf, HasNone}

-- A number that divides a product and is coprime to one factor divides the other.
pub coprime-divides : (a b c : ℕ) → 0 < c → IsGcd a b 1 → b ∣ a * c → b ∣ c
coprime-divides a b c some is divides =
    let left : b ∣ c * a = let P : ℕ → Type 0 = λ n. b ∣ n in subst P (mul_comm a c) divides in
    let both : b ∣ gcd_of (c * a) (c * b) = (gcd_of-is (c * a) (c * b)).2 b left (dvd-mul_left b c) in
    let factor : gcd_of (c * a) (c * b) ≡ c = gcd-scaled c a b some ∙ ap (λ g. c * g) (coprime-gcd a b is) ∙ mul-one c in
    let P : ℕ → Type 0 = λ n. b ∣ n in subst P factor both

odd-coprime : (odd k : ℕ) → odd % 2 ≡ 1 → IsGcd odd (2 ^ k) 1
odd-coprime odd k is = coprime-power odd 2 k (omega arith) (coprime-two odd (λ even. omega (arith, is, even)))

-- 2 ^ s is 2 ^ d times as many as are left
left-over : (d s : ℕ) → d ≤ s → 2 ^ s ≡ 2 ^ (s - d) * 2 ^ d
left-over d s less = ap (λ n. 2 ^ n) (omega arith) ∙ pow-add 2 (s - d) d

-- over a power of two that is left
pub terms-below : (odd d s : ℕ) → odd % 2 ≡ 1 → odd < 2 ^ 64 → d < s → s - d ≤ 126 → AreLowest (odd * 2 ^ d) (2 ^ s) odd (1 * 2 ^ (s - d) % 2 ^ 128)
terms-below odd d s is fits less few =
    let within : 2 ^ (s - d) ≤ 2 ^ 126 = pow_mono few in
    let whole : 1 * 2 ^ (s - d) % 2 ^ 128 ≡ 2 ^ (s - d) = omega (arith, within) in
    subst (λ n. AreLowest (odd * 2 ^ d) (2 ^ s) odd n) (sym whole)
    (record {
      positive = pow_pos (s - d);
      same = ap (λ n. odd * n) (left-over d s (omega arith)) ∙ turned odd (2 ^ (s - d)) (2 ^ d);
      lowest = odd-coprime odd (s - d) is;
      num_fits = omega (arith, fits);
      den_fits = within;
    })
  where
    turned : (a b c : ℕ) → a * (b * c) ≡ a * c * b
    turned a b c = omega arith

pub none-below : (odd d s : ℕ) → odd % 2 ≡ 1 → d < s → 126 < s - d → HasNone (odd * 2 ^ d) (2 ^ s)
none-below odd d s is less many num den some same num-fits den-fits =
    let split : num * 2 ^ (s - d) * 2 ^ d ≡ odd * den * 2 ^ d =
    mul_assoc num (2 ^ (s - d)) (2 ^ d) ∙ ap (λ n. num * n) (sym (left-over d s (omega arith))) ∙ same ∙ turned odd (2 ^ d) den in
    let product : num * 2 ^ (s - d) ≡ odd * den = eq_of_mul-eq-mul_right (2 ^ d) (pow_pos d) _ _ split in
    let divides : 2 ^ (s - d) ∣ odd * den = let P : ℕ → Type 0 = λ n. 2 ^ (s - d) ∣ n in subst P product (dvd-mul_left (2 ^ (s - d)) num) in
    let least : 2 ^ (s - d) ≤ den = le_of_dvd some (coprime-divides odd (2 ^ (s - d)) den some (odd-coprime odd (s - d) is) divides) in
    let large : 2 ^ 127 ≤ 2 ^ (s - d) = pow_mono {i = 127} (omega (arith, many)) in
    omega (arith, least, large, den-fits)
  where
    turned : (a b c : ℕ) → a * b * c ≡ a * c * b
    turned a b c = omega arith

-- over 1
pub terms-above : (odd d s k : ℕ) → odd < 2 * 2 ^ k → s ≤ d → k + (d - s) ≤ 126 → AreLowest (odd * 2 ^ d) (2 ^ s) (odd * 2 ^ (d - s) % 2 ^ 128) 1
terms-above odd d s k to more few =
    let product : 2 * 2 ^ k * 2 ^ (d - s) ≡ 2 * 2 ^ (k + (d - s)) = mul_assoc 2 (2 ^ k) (2 ^ (d - s)) ∙ ap (λ n. 2 * n) (sym (pow-add 2 k (d - s))) in
    let within : 2 ^ (k + (d - s)) ≤ 2 ^ 126 = pow_mono few in
    let below : odd * 2 ^ (d - s) < 2 * 2 ^ k * 2 ^ (d - s) = mul-lt-mul_of_pos_right to (pow_pos (d - s)) in
    let whole : odd * 2 ^ (d - s) % 2 ^ 128 ≡ odd * 2 ^ (d - s) = omega (arith, product, within, below) in
    subst (λ n. AreLowest (odd * 2 ^ d) (2 ^ s) n 1) (sym whole)
    (record {
      positive = omega arith;
      same = mul_assoc odd (2 ^ (d - s)) (2 ^ s) ∙ ap (λ n. odd * n) (sym (left-over s d more)) ∙ sym (mul-one (odd * 2 ^ d));
      lowest = coprime-one (odd * 2 ^ (d - s));
      num_fits = omega (arith, product, within, below);
      den_fits = omega arith;
    })

pub none-above : (odd d s k : ℕ) → 2 ^ k ≤ odd → s ≤ d → 126 < k + (d - s) → HasNone (odd * 2 ^ d) (2 ^ s)
none-above odd d s k from more many num den some same num-fits den-fits =
    let split : num * 2 ^ s ≡ odd * 2 ^ (d - s) * den * 2 ^ s =
    same ∙ ap (λ n. odd * n * den) (left-over s d more) ∙ turned odd (2 ^ (d - s)) (2 ^ s) den in
    let product : num ≡ odd * 2 ^ (d - s) * den = eq_of_mul-eq-mul_right (2 ^ s) (pow_pos s) _ _ split in
    let least : 2 ^ k * 2 ^ (d - s) ≤ odd * 2 ^ (d - s) = mul-le-mul_right (2 ^ (d - s)) from in
    let large : 2 ^ 127 ≤ 2 ^ (k + (d - s)) = pow_mono {i = 127} (omega (arith, many)) in
    let joined : 2 ^ (k + (d - s)) ≡ 2 ^ k * 2 ^ (d - s) = pow-add 2 k (d - s) in
    let times : odd * 2 ^ (d - s) * 1 ≤ odd * 2 ^ (d - s) * den = mul-le-mul_left (odd * 2 ^ (d - s)) some in
    omega (arith, product, least, large, joined, times, num-fits)
  where
    turned : (a b c e : ℕ) → a * (b * c) * e ≡ a * b * e * c
    turned a b c e = omega arith

-- Equal amounts have equal terms.
pub terms-same : (a b one : ℕ) (r : Option (ℕ × ℕ)) → a ≡ b → AreTermsOf a one r → AreTermsOf b one r
terms-same a b one r e terms = let P : ℕ → Type 0 = λ n. AreTermsOf n one r in subst P e terms

pub joined-power : (odd t d n : ℕ) → odd * 2 ^ t ≡ n → odd * 2 ^ (d + t) ≡ n * 2 ^ d
joined-power odd t d n e = ap (λ m. odd * m) (pow-add 2 d t) ∙ turned odd (2 ^ d) (2 ^ t) ∙ ap (λ m. m * 2 ^ d) e
  where
    turned : (a b c : ℕ) → a * (b * c) ≡ a * c * b
    turned a b c = omega arith
