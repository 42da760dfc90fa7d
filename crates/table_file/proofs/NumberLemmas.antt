-- Numbers by how many digits they have.
use Rattle.std.proofs.Common.{◌≡◌, ℕ, suc, ◌+◌, ◌-◌, ◌*◌, ◌^◌, ◌<◌, ◌≤◌, true, nat_le, List, [], ◌∷◌, length, take, drop, get_or, length-take-le, arith, ap, sym, ◌∙◌, add-one}
use Rattle.std.specs.List.{fold, list_all}
use Rattle.std.proofs.Math.Nat.{mul-le-mul_right, pow-le-pow_right}
use Rattle.std.proofs.lemmas.Bool.{and_parts, leb-true}
use Rattle.std.proofs.lemmas.Bool.Decides.{nat_tests}
use Rattle.std.proofs.lemmas.Grind.{pow_more}
use Rattle.std.proofs.lemmas.List.{take-append-drop}
use Rattle.std.proofs.lemmas.List.Folds.{list_all-append}
use Rattle.std.proofs.lemmas.List.Sums.{AllPass-from_list_all}
use Rattle.subdiv_model.specs.Digits.{is_digit, is_number_word, number_of_digits}
use Rattle.obj_laws.proofs.DigitLemmas.{digits-below}

-- digits behind a number make it greater by a power of ten
above : (a : ℕ) (digits : List ℕ) → a * 10 ^ length digits ≤ fold (λ n b. n * 10 + (b - 48)) a digits
above a [] = omega arith
above a (b ∷ digits) =
    let power : 10 ^ suc (length digits) ≡ 10 ^ length digits * 10 = ap (λ n. 10 ^ n) (sym (add-one (length digits))) ∙ pow_more 10 (length digits) in
    let whole : a * 10 ^ suc (length digits) ≡ a * 10 * 10 ^ length digits = ap (λ n. a * n) power ∙ regroup a (10 ^ length digits) in
    let step : a * 10 * 10 ^ length digits ≤ (a * 10 + (b - 48)) * 10 ^ length digits = mul-le-mul_right (10 ^ length digits) (omega arith) in
    rw whole (omega (arith, step, above (a * 10 + (b - 48)) digits))
  where
    regroup : (x y : ℕ) → x * (y * 10) ≡ x * 10 * y
    regroup x y = omega arith

first-digit : (b : ℕ) (rest : List ℕ) → is_number_word (b ∷ rest) ≡ true → 0 < length rest → 1 ≤ b - 48
first-digit b rest h some = grind (arith, nat_tests)

-- a number of more than n digits is at least 10^n
pub number-above : (word : List ℕ) (n : ℕ) → is_number_word word ≡ true → n < length word → 0 < n → 10 ^ n ≤ number_of_digits word
number-above [] n h long some = absurd (omega arith)
number-above (b ∷ rest) n h long some =
    let first : 1 ≤ 0 * 10 + (b - 48) = omega (arith, first-digit b rest h (omega arith)) in
    let power : 10 ^ n ≤ 10 ^ length rest = pow-le-pow_right (omega arith) (omega arith) in
    omega (arith, power, mul-le-mul_right (10 ^ length rest) first, above (0 * 10 + (b - 48)) rest)

pub number-below : (digits : List ℕ) (n : ℕ) → list_all is_digit digits ≡ true → length digits ≤ n → number_of_digits digits < 10 ^ n
number-below digits n h few =
    let power : 10 ^ length digits ≤ 10 ^ n = pow-le-pow_right (omega arith) few in
    omega (arith, power, digits-below 0 digits h)

first-all : (digits : List ℕ) (k : ℕ) → list_all is_digit digits ≡ true → list_all is_digit (take k digits) ≡ true
first-all digits k h =
    (and_parts (list_all is_digit (take k digits)) (list_all is_digit (drop k digits))
    (sym (list_all-append is_digit (take k digits) (drop k digits)) ∙ ap (list_all is_digit) (take-append-drop k digits) ∙ h)).0

-- the number of the digits before a place, of at most n digits, is below 10^n
pub number-before : (digits : List ℕ) (k n : ℕ) → list_all is_digit digits ≡ true → k < length digits → length digits ≤ n + 1 → number_of_digits (take k digits) < 10 ^ n
number-before digits k n h within few =
    number-below (take k digits) n (first-all digits k h) (omega (arith, length-take-le k digits (omega arith)))

pub digit-few : (digits : List ℕ) (k d : ℕ) → list_all is_digit digits ≡ true → k < length digits → get_or digits k d - 48 ≤ 9
digit-few digits k d h within =
    omega (arith, leb-true (get_or digits k d) 57 (and_parts (nat_le 48 (get_or digits k d)) (nat_le (get_or digits k d) 57) (AllPass-from_list_all is_digit digits h k d within)).1)
