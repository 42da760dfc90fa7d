-- Terms of numerals: removing twos and fives from an amount leaves lowest terms.
use Rattle.std.proofs.Common.{◌≡◌, ◌≢◌, ◌⊎◌, ℕ, ◌+◌, ◌-◌, ◌*◌, ◌/◌, ◌%◌, ◌^◌, ◌<◌, ◌≤◌, true, false, List, Ok, inl, inr, arith, lit<, refl, ap, sym, ◌∙◌}
use Rattle.std.specs.Int.{IsGcd}
use Rattle.std.proofs.lemmas.Grind.{pow_more}
use Rattle.std.proofs.lemmas.Nat.{div-add-mod', pow-add, mul-pow}
use Rattle.std.proofs.lemmas.Nat.Gcd.{same_from_IsGcd}
use Rattle.std.proofs.Math.Nat.{div-le_self, div-mul_cancel, mul-le-mul, mul-le-mul_left, mul-mod_left, one-le-pow, pos_of_dvd_of_pos, pow-le-pow_right, pow-zero}
use Rattle.subdiv_model.specs.Fractions.{gcd_of, lowest}
use Rattle.number_laws.proofs.CoprimeLemmas.{coprime-tens, lowest-stays}
use Rattle.number_laws.proofs.DivisorLemmas.{factor-positive, lowest-scaled}
use Rattle.number_laws.proofs.FractionLemmas.{gcd_of-is}
use Rattle.subdiv_model.specs.Numeral.{is_decimal, is_numeral, normal_amount, is_decimal_in_range, is_in_range, numeral_amount, decimals_of}
use Rattle.obj_laws.proofs.NumeralKindLemmas.{decimal-no-fraction}
use Rattle.obj_text.specs.declared.terms.Terms.{Terms}
use Rattle.obj_text.specs.NumeralTerms.{IsWithout, AreLowestTerms, IsTermsRead}

-- before any factor is taken out
pub without-start : (p n most : ℕ) → n ≡ n * p ^ (most - most)
without-start p n most =
    let none : most - most ≡ 0 = omega arith in
    let one : p ^ (most - most) ≡ 1 = ap (λ k. p ^ k) none ∙ pow-zero p in
    omega (arith, ap (λ k. n * k) one)

-- one more factor
pub without-step : (p n most rest left : ℕ) → left ≤ most → 0 < left → rest % p ≡ 0 → n ≡ rest * p ^ (most - left)
    → n ≡ rest / p * p ^ (most - (left - 1))
without-step p n most rest left few some none value =
    let whole : rest ≡ rest / p * p = omega (arith, div-add-mod' rest p, none) in
    let next : p ^ (most - (left - 1)) ≡ p ^ (most - left) * p = ap (λ k. p ^ k) (omega arith) ∙ pow_more p (most - left) in
    value ∙ ap (λ r. r * p ^ (most - left)) whole ∙ regroup (rest / p) p (p ^ (most - left)) ∙ ap (λ k. rest / p * k) (sym next)
  where
    regroup : (a b c : ℕ) → a * b * c ≡ a * (c * b)
    regroup a b c = omega arith

-- An amount without twos still has none after its fives are removed.
still-odd : (a num k left : ℕ) → a ≡ num * 5 ^ k → (left ≡ 0) ⊎ (a % 2 ≢ 0) → (left ≡ 0) ⊎ (num % 2 ≢ 0)
still-odd a num k left e (inl none) = inl none
still-odd a num k left e (inr odd) = inr (λ even. odd (twice even))
  where
    twice : num % 2 ≡ 0 → a % 2 ≡ 0
    twice even =
        let half : num ≡ num / 2 * 2 = omega (arith, div-add-mod' num 2, even) in
        let whole : a ≡ num / 2 * 5 ^ k * 2 = e ∙ ap (λ n. n * 5 ^ k) half ∙ omega arith in
        ap (λ n. n % 2) whole ∙ mul-mod_left (num / 2 * 5 ^ k) 2

pub over-positive : (twos fives : ℕ) → 0 < 2 ^ twos * 5 ^ fives
over-positive twos fives =
    let a : 1 ≤ 2 ^ twos = one-le-pow twos 2 (lit< tt) in
    let b : 1 ≤ 5 ^ fives = one-le-pow fives 5 (lit< tt) in
    let c : 1 * 1 ≤ 2 ^ twos * 5 ^ fives = mul-le-mul a b in
    omega arith

-- an amount over ten to the d, without its twos and fives
pub terms-lowest : (n d rest twos num fives : ℕ) → IsWithout 2 n d rest twos → IsWithout 5 rest d num fives
    → (num, 2 ^ twos * 5 ^ fives) ≡ lowest (n, 10 ^ d)
terms-lowest n d rest twos num fives two five =
    let i : ℕ = d - twos in
    let j : ℕ = d - fives in
    let factor : ℕ = 2 ^ i * 5 ^ j in
    let den : ℕ = 2 ^ twos * 5 ^ fives in
    let positive : 0 < factor = over-positive i j in
    let amount : n ≡ factor * num = two.value ∙ ap (λ r. r * 2 ^ i) five.value ∙ gather num (5 ^ j) (2 ^ i) in
    let twos-split : 2 ^ d ≡ 2 ^ i * 2 ^ twos = let all : d ≡ i + twos = omega (arith, two.few) in ap (λ k. 2 ^ k) all ∙ pow-add 2 i twos in
    let fives-split : 5 ^ d ≡ 5 ^ j * 5 ^ fives = let all : d ≡ j + fives = omega (arith, five.few) in ap (λ k. 5 ^ k) all ∙ pow-add 5 j fives in
    let tens : 10 ^ d ≡ factor * den =
    mul-pow 2 5 d ∙ ap (λ k. k * 5 ^ d) twos-split ∙ ap (λ k. 2 ^ i * 2 ^ twos * k) fives-split ∙ cross (2 ^ i) (2 ^ twos) (5 ^ j) (5 ^ fives) in
    sym
    (ap (λ m. lowest (m, 10 ^ d)) amount
    ∙ ap (λ m. lowest (factor * num, m)) tens
    ∙ lowest-scaled factor num den positive
    ∙ lowest-stays num den (coprime-tens num twos fives (still-odd rest num j twos five.value two.ends) five.ends))
  where
    gather : (a b c : ℕ) → a * b * c ≡ c * b * a
    gather a b c = omega arith

    cross : (a b c e : ℕ) → a * b * (c * e) ≡ a * c * (b * e)
    cross a b c e = omega arith

-- powers that fit
pub fives-fit : (k : ℕ) → k ≤ 37 → 5 ^ k < 2 ^ 128
fives-fit k few = let grows : 5 ^ k ≤ 5 ^ 37 = pow-le-pow_right {n = 5} (lit< tt) {i = k} {j = 37} few in omega arith

-- twos and fives of at most d are at most ten to the d
pub over-most : (d twos fives : ℕ) → twos ≤ d → fives ≤ d → 2 ^ twos * 5 ^ fives ≤ 10 ^ d
over-most d twos fives few less =
    let a : 2 ^ twos ≤ 2 ^ d = pow-le-pow_right {n = 2} (lit< tt) {i = twos} {j = d} few in
    let b : 5 ^ fives ≤ 5 ^ d = pow-le-pow_right {n = 5} (lit< tt) {i = fives} {j = d} less in
    let c : 2 ^ twos * 5 ^ fives ≤ 2 ^ d * 5 ^ d = mul-le-mul a b in
    omega (arith, mul-pow 2 5 d)

tens-most : (d : ℕ) → d ≤ 37 → 10 ^ d ≤ 10 ^ 37
tens-most d few = pow-le-pow_right {n = 10} (lit< tt) {i = d} {j = 37} few

pub over-small : (d twos fives : ℕ) → d ≤ 37 → twos ≤ d → fives ≤ d → 2 ^ twos * 5 ^ fives ≤ 10 ^ 37
over-small d twos fives short few less = omega (arith, over-most d twos fives few less, tens-most d short)

-- Removing factors does not increase an amount.
pub without-most : (p n most rest left : ℕ) → 0 < p → IsWithout p n most rest left → rest ≤ n
without-most p n most rest left positive is =
    let some : 1 ≤ p ^ (most - left) = one-le-pow (most - left) p positive in
    let times : rest * 1 ≤ rest * p ^ (most - left) = mul-le-mul_left rest some in
    omega (arith, is.value)

-- The terms that a reader makes of an amount over 10^d.
pub over-terms : (amount d rest twos num fives den : ℕ) → amount < 10 ^ 37 → d ≤ 37 → IsWithout 2 amount d rest twos
    → IsWithout 5 rest d num fives → den ≡ 2 ^ twos * 5 ^ fives
    → AreLowestTerms (record { num = num; den = den; decimals = d }) amount (10 ^ d) d
over-terms amount d rest twos num fives den short few two five e = record {
  pair = ap (λ k. (num, k)) e ∙ terms-lowest amount d rest twos num fives two five;
  decimals = refl;
  small =
      (omega (arith, without-most 2 amount d rest twos (lit< tt) two, without-most 5 rest d num fives (lit< tt) five), omega (arith, e, over-positive twos fives), omega (arith, e, over-small d twos fives few two.few five.few), few);
}

-- a greatest common divisor is above 0, and takes a fraction to its lowest terms
pub divisor-positive : (num den common : ℕ) → 0 < den → IsGcd num den common → 0 < common
divisor-positive num den common positive is = pos_of_dvd_of_pos is.1 positive

pub quotient-terms : (num den common : ℕ) → num < 10 ^ 37 → den < 10 ^ 37 → 0 < den → IsGcd num den common
    → AreLowestTerms (record { num = num / common; den = den / common; decimals = 0 }) num den 0
quotient-terms num den common short few positive is =
    let same : common ≡ gcd_of num den = same_from_IsGcd num den common (gcd_of num den) is (gcd_of-is num den) in
    let some : 0 < den / common = factor-positive (den / common) common den (div-mul_cancel common is.1) positive in
    record {
      pair = ap (λ g. (num / g, den / g)) same;
      decimals = refl;
      small = (omega (arith, div-le_self num common), some, omega (arith, div-le_self den common), omega arith);
    }

-- a decimal is a numeral, in range or not, and has the terms of its normal form
decimal-numeral : (word : List ℕ) → is_decimal word ≡ true → is_numeral word ≡ true
decimal-numeral word is = rw is refl

decimal-range : (word : List ℕ) → is_decimal word ≡ true → is_in_range word ≡ is_decimal_in_range word
decimal-range word is = rw (decimal-no-fraction word is) refl

decimal-amount : (word : List ℕ) → is_decimal word ≡ true → numeral_amount word ≡ lowest ((normal_amount word).0, 10 ^ (normal_amount word).1)
decimal-amount word is = rw (decimal-no-fraction word is) refl

decimal-decimals : (word : List ℕ) → is_decimal word ≡ true → decimals_of word ≡ (normal_amount word).1
decimal-decimals word is = rw (decimal-no-fraction word is) refl

pub decimal-outside : (word : List ℕ) → is_decimal word ≡ true → is_decimal_in_range word ≡ false
    → (is_numeral word ≡ true) × (is_in_range word ≡ false)
decimal-outside word is out = (decimal-numeral word is, decimal-range word is ∙ out)

pub decimal-read : (word : List ℕ) (terms : Terms) (amount decimals : ℕ) → is_decimal word ≡ true → is_decimal_in_range word ≡ true
    → (amount, decimals) ≡ normal_amount word → AreLowestTerms terms amount (10 ^ decimals) decimals → IsTermsRead (Ok terms) word
decimal-read word terms amount decimals is range form are =
    (decimal-numeral word is, decimal-range word is ∙ range, are.pair ∙ ap (λ (f : ℕ × ℕ). lowest (f.0, 10 ^ f.1)) form ∙ sym (decimal-amount word is), are.decimals ∙ ap (λ (f : ℕ × ℕ). f.1) form ∙ sym (decimal-decimals word is), are.small)
