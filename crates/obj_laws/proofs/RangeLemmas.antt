-- The reader keeps a numeral exactly where it is in range: an exponent that it refuses at once is out of range.
use Rattle.std.proofs.Common.{◌≡◌, ◌≢◌, ℕ, ◌+◌, ◌*◌, ◌^◌, ◌<◌, ◌≤◌, true, false, not, ◌&&◌, nat_lt, nat_le, List, length, arith, lit<, refl, ap, ◌∙◌, ⊎_elim}
use Rattle.std.specs.List.{list_all}
use Rattle.std.proofs.lemmas.Bool.{cases_lt, cases_Bool, or_cases, and_parts, ltb-true}
use Rattle.std.proofs.lemmas.Bool.Decides.{nat_tests}
use Rattle.std.proofs.lemmas.Nat.{pow-add}
use Rattle.std.proofs.Math.Nat.{pow-le-pow_right, mul-le-mul_left, mul-le-mul_right, one-le-pow}
use Rattle.subdiv_model.specs.Digits.{is_digit, number_of_digits}
use Rattle.subdiv_model.specs.Numeral.{is_numeral, is_decimal, is_fraction, all_digits, tens_above, tens_below, normal_amount, is_decimal_in_range, is_in_range}
use Rattle.subdiv_model.specs.ObjWord.{is_far_exponent, is_past_range, is_representable}
use Rattle.obj_laws.proofs.DigitLemmas.{digits-below}
use Rattle.obj_laws.proofs.NumeralKindLemmas.{decimal-of}
use Rattle.obj_laws.proofs.NumeralValueLemmas.{IsReduced, word-reduced}

pub grows : (i j : ℕ) → i ≤ j → 10 ^ i ≤ 10 ^ j
grows i j h = pow-le-pow_right {n = 10} (lit< tt) {i = i} {j = j} h

-- far more tens above than below leave a long amount
far-above : (n up down m d : ℕ) → 0 < n → down + 36 < up → IsReduced (n * 10 ^ up) down (m, d) → 10 ^ 37 ≤ m
far-above n up down m d some far is =
    ⊎_elim
    (λ (less : m < 10 ^ 37).
    let split : 10 ^ (37 + down) ≡ 10 ^ 37 * 10 ^ down = pow-add 10 37 down in
    let most : 10 ^ (37 + down) ≤ 10 ^ up = grows (37 + down) up (omega arith) in
    let times : 1 * 10 ^ up ≤ n * 10 ^ up = mul-le-mul_right (10 ^ up) (omega arith) in
    let decimals : n * 10 ^ up * 1 ≤ n * 10 ^ up * 10 ^ d = mul-le-mul_left (n * 10 ^ up) (one-le-pow d 10 (lit< tt)) in
    let short : (m + 1) * 10 ^ down ≤ 10 ^ 37 * 10 ^ down = mul-le-mul_right (10 ^ down) (omega arith) in
    let one : 1 ≤ 10 ^ down = one-le-pow down 10 (lit< tt) in
    absurd (omega (arith, is.value)))
    (λ (h : 10 ^ 37 ≤ m). h) (cases_lt m (10 ^ 37))

-- far more tens below than the digits and the tens above leave many decimals
far-below : (n digits up down m d : ℕ) → 0 < n → n < 10 ^ digits → digits + up + 37 < down → IsReduced (n * 10 ^ up) down (m, d) → 37 < d
far-below n digits up down m d some short far is =
    ⊎_elim
    (λ (more : 37 < d). more)
    (λ (few : d ≤ 37).
    let split : 10 ^ (digits + up + 37) ≡ 10 ^ (digits + up) * 10 ^ 37 = pow-add 10 (digits + up) 37 in
    let halves : 10 ^ (digits + up) ≡ 10 ^ digits * 10 ^ up = pow-add 10 digits up in
    let most : 10 ^ (digits + up + 37) ≤ 10 ^ down = grows (digits + up + 37) down (omega arith) in
    let decimals : n * 10 ^ up * 10 ^ d ≤ n * 10 ^ up * 10 ^ 37 = mul-le-mul_left (n * 10 ^ up) (grows d 37 few) in
    let next : (n + 1) * 10 ^ up ≤ 10 ^ digits * 10 ^ up = mul-le-mul_right (10 ^ up) (omega arith) in
    let whole : (n + 1) * 10 ^ up * 10 ^ 37 ≤ 10 ^ digits * 10 ^ up * 10 ^ 37 = mul-le-mul_right (10 ^ 37) next in
    let tens : 1 ≤ 10 ^ up = one-le-pow up 10 (lit< tt) in
    let amount : 1 * 10 ^ up ≤ n * 10 ^ up = mul-le-mul_right (10 ^ up) (omega arith) in
    let above : n * 10 ^ up * 1 ≤ n * 10 ^ up * 10 ^ d = mul-le-mul_left (n * 10 ^ up) (one-le-pow d 10 (lit< tt)) in
    let some_amount : m ≢ 0 = λ none. absurd (let zero : m * 10 ^ down ≡ 0 * 10 ^ down = ap (λ x. x * 10 ^ down) none in omega (arith, is.value)) in
    let least : 1 * 10 ^ down ≤ m * 10 ^ down = mul-le-mul_right (10 ^ down) (omega arith) in
    let joined : 10 ^ (digits + up + 37) ≡ 10 ^ digits * 10 ^ up * 10 ^ 37 = split ∙ ap (λ p. p * 10 ^ 37) halves in
    absurd (omega (arith, is.value)))
    (cases_lt 37 d)

outside-amount : (m d : ℕ) → 10 ^ 37 ≤ m → nat_lt m (10 ^ 37) && nat_le d 37 ≡ false
outside-amount m d h = grind (arith, nat_tests)

outside-decimals : (m d : ℕ) → 37 < d → nat_lt m (10 ^ 37) && nat_le d 37 ≡ false
outside-decimals m d h = grind (arith, nat_tests)

word-digits : (word : List ℕ) → is_decimal word ≡ true → list_all is_digit (all_digits word) ≡ true
word-digits word decimal = (and_parts _ _ (and_parts _ _ decimal).0).1

number-short : (word : List ℕ) → is_decimal word ≡ true → number_of_digits (all_digits word) < 10 ^ length (all_digits word)
number-short word decimal = let below = digits-below 0 (all_digits word) (word-digits word decimal) in omega (arith, below)

past-range : (word : List ℕ) → is_decimal word ≡ true → is_past_range word ≡ true → is_decimal_in_range word ≡ false
past-range word decimal past =
    let n = number_of_digits (all_digits word) in
    let form = normal_amount word in
    let parts : (nat_lt 0 n ≡ true) × (is_far_exponent word ≡ true) = and_parts _ _ past in
    let some : 0 < n = ltb-true 0 n parts.0 in
    ⊎_elim
    (λ h. outside-amount form.0 form.1 (far-above n (tens_above word) (tens_below word) form.0 form.1 some (ltb-true _ _ h) (word-reduced word)))
    (λ h. outside-decimals form.0 form.1 (far-below n (length (all_digits word)) (tens_above word) (tens_below word) form.0 form.1 some (number-short word decimal) (ltb-true _ _ h) (word-reduced word)))
    (or_cases _ _ parts.1)

-- a decimal is kept exactly where it is in range
decimal-kept : (word : List ℕ) → is_decimal word ≡ true → not (is_past_range word) && is_decimal_in_range word ≡ is_decimal_in_range word
decimal-kept word decimal =
    ⊎_elim
    (λ (past : is_past_range word ≡ true). let out = past-range word decimal past in rw (past, out) refl)
    (λ (near : is_past_range word ≡ false). rw near refl)
    (cases_Bool (is_past_range word))

-- the reader keeps a numeral exactly where it is in range
pub kept-range : (word : List ℕ) → is_numeral word ≡ true → is_representable word ≡ is_in_range word
kept-range word numeral =
    ⊎_elim
    (λ (fraction : is_fraction word ≡ true). rw fraction refl)
    (λ (other : is_fraction word ≡ false). rw other (decimal-kept word (decimal-of word numeral other)))
    (cases_Bool (is_fraction word))
