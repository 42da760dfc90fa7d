-- Numbers of digits: they grow digit by digit, so one that is too large stays so.
use Rattle.std.proofs.Common.{◌≡◌, ℕ, zero, suc, ◌+◌, ◌-◌, ◌*◌, ◌<◌, ◌≤◌, Bool, true, false, ◌&&◌, nat_le, List, [], ◌∷◌, length, take, get_or, Some, None, arith, refl, ap, sym, ◌∙◌}
use Rattle.std.specs.Bool.{if◌then◌else◌}
use Rattle.std.specs.List.{fold, list_all}
use Rattle.std.proofs.lemmas.Bool.{and_left, and_right, and_from, le-leb, lt-leb, leb-false}
use Rattle.std.proofs.lemmas.List.{take_all}
use Rattle.std.proofs.lemmas.List.Sums.{fold_more}
use Rattle.subdiv_model.specs.Digits.{is_digit, number_of_digits, is_number_word}
use Rattle.far_model.specs.Words.{Number, is_value}
use Rattle.far_words.specs.Table.{fits_u32, u32_of_digits, u32_of_word}

number-grows : (a : ℕ) (digits : List ℕ) → a ≤ fold (λ n b. n * 10 + (b - 48)) a digits
number-grows a [] = omega arith
number-grows a (b ∷ digits) = omega (arith, number-grows (a * 10 + (b - 48)) digits)

number-prefix : (a : ℕ) (digits : List ℕ) (i : ℕ) → fold (λ n b. n * 10 + (b - 48)) a (take i digits) ≤ fold (λ n b. n * 10 + (b - 48)) a digits
number-prefix a digits zero = number-grows a digits
number-prefix a [] (suc i) = omega arith
number-prefix a (b ∷ digits) (suc i) = number-prefix (a * 10 + (b - 48)) digits i

-- one more digit of those makes the number too large
pub too-large : (digits : List ℕ) (number i : ℕ) → number ≡ number_of_digits (take i digits) → i < length digits
    → 4294967295 < number * 10 + (get_or digits i 0 - 48) → u32_of_digits digits ≡ None
too-large digits number i is within large =
    let more : number_of_digits (take (i + 1) digits) ≡ number_of_digits (take i digits) * 10 + (get_or digits i 0 - 48) =
    fold_more (λ n b. n * 10 + (b - 48)) 0 digits i 0 within in
    let whole : number_of_digits (take (i + 1) digits) ≤ number_of_digits digits = number-prefix 0 digits (i + 1) in
    let not_fit : fits_u32 (number_of_digits digits) ≡ false = lt-leb (number_of_digits digits) 4294967295 (omega arith) in
    ap (λ b. if b then Some (number_of_digits digits) else None) (and_right (list_all is_digit digits) _ not_fit)

pub all-digits : (digits : List ℕ) (number i : ℕ) → list_all is_digit (take i digits) ≡ true → number ≡ number_of_digits (take i digits)
    → length digits ≤ i → number ≤ 4294967295 → Some number ≡ u32_of_digits digits
all-digits digits number i all is past fits =
    let whole : take i digits ≡ digits = take_all i digits past in
    let same : number ≡ number_of_digits digits = is ∙ ap number_of_digits whole in
    let small : fits_u32 (number_of_digits digits) ≡ true = le-leb (number_of_digits digits) 4294967295 (omega arith) in
    ap Some same ∙ sym (ap (λ b. if b then Some (number_of_digits digits) else None) (and_from _ _ (ap (list_all is_digit) (sym whole) ∙ all) small))

-- A word that is not a number of 32 bits is not a value of a range of 32 bits.
pub not-between : (word : List ℕ) (least greatest : ℕ) → u32_of_word word ≡ None → greatest ≤ 4294967295
    → false ≡ is_value (Number least greatest) word
not-between word least greatest none small = go (is_number_word word) refl
  where
    n : ℕ
    n = number_of_digits word

    go : (b : Bool) → is_number_word word ≡ b → false ≡ (is_number_word word && nat_le least n && nat_le n greatest)
    go false e = sym (and_left _ _ (and_left _ _ e))
    go true e = sym (and_right (is_number_word word && nat_le least n) _ (lt-leb n greatest (over (fits_u32 n) refl)))
      where
        over : (f : Bool) → fits_u32 n ≡ f → greatest < n
        over true h =
            absurd (let some : Some n ≡ None = ap (λ b. if b then Some n else None) (sym (and_from _ _ e h)) ∙ none in cc)
        over false h = omega (arith, leb-false n 4294967295 h)
