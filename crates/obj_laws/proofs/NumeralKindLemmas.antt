-- A decimal is no fraction: none of its bytes is a slash.
use Rattle.std.proofs.Common.{◌≡◌, ℕ, ◌+◌, Bool, true, false, not, ◌&&◌, ◌||◌, List, [], ◌∷◌, length, take, drop, suc, arith, refl, ap, sym, ◌∙◌, true≢false, nat_lt}
use Rattle.std.specs.List.{list_all, position_or_len, before_first, after_first}
use Rattle.std.proofs.lemmas.Bool.{and_parts, and_from}
use Rattle.std.proofs.lemmas.Bool.Decides.{nat_tests}
use Rattle.std.proofs.lemmas.List.{drop_all}
use Rattle.std.proofs.lemmas.List.Folds.{list_all-append}
use Rattle.subdiv_model.specs.Digits.{is_digit, number_of_digits}
use Rattle.subdiv_model.specs.Numeral.{are_digits, is_sign, without_sign, is_exponent_mark, is_point, decimal_part, whole_digits, fraction_digits, is_exponent, is_slash, is_decimal, is_fraction, is_numeral, numerator_digits, denominator_digits}

abbrev has_no_slash : List ℕ → Bool
has_no_slash bytes = list_all (λ b. not (is_slash b)) bytes

no-slash-in-digits : (bytes : List ℕ) → list_all is_digit bytes ≡ true → has_no_slash bytes ≡ true
no-slash-in-digits [] are = refl
no-slash-in-digits (b ∷ bytes) are =
    let parts = and_parts (is_digit b) (list_all is_digit bytes) are in
    and_from _ _ (other b parts.0) (no-slash-in-digits bytes parts.1)
  where
    other : (b : ℕ) → is_digit b ≡ true → not (is_slash b) ≡ true
    other b is = grind (arith, nat_tests)

-- the parts of a list at the first byte that passes a test, where its own first byte does not
position-next : (p : ℕ → Bool) (b : ℕ) (bytes : List ℕ) → false ≡ p b → position_or_len p (b ∷ bytes) ≡ suc (position_or_len p bytes)
position-next p b bytes e = rw (sym e) (omega arith)

before-next : (p : ℕ → Bool) (b : ℕ) (bytes : List ℕ) → false ≡ p b → before_first p (b ∷ bytes) ≡ b ∷ before_first p bytes
before-next p b bytes e = ap (λ n. take n (b ∷ bytes)) (position-next p b bytes e)

from-next : (p : ℕ → Bool) (b : ℕ) (bytes : List ℕ) → false ≡ p b
    → drop (position_or_len p (b ∷ bytes)) (b ∷ bytes) ≡ drop (position_or_len p bytes) bytes
from-next p b bytes e = ap (λ n. drop n (b ∷ bytes)) (position-next p b bytes e)

after-next : (p : ℕ → Bool) (b : ℕ) (bytes : List ℕ) → false ≡ p b → after_first p (b ∷ bytes) ≡ after_first p bytes
after-next p b bytes e =
    let more : position_or_len p (b ∷ bytes) + 1 ≡ suc (position_or_len p bytes + 1) = omega (arith, position-next p b bytes e) in
    ap (λ n. drop n (b ∷ bytes)) more

-- if the first byte passes, the part from it on is all bytes
from-here : (p : ℕ → Bool) (b : ℕ) (bytes : List ℕ) → true ≡ p b → drop (position_or_len p (b ∷ bytes)) (b ∷ bytes) ≡ b ∷ bytes
from-here p b bytes e = rw (sym e) refl

after-here : (p : ℕ → Bool) (b : ℕ) (bytes : List ℕ) → true ≡ p b → after_first p (b ∷ bytes) ≡ bytes
after-here p b bytes e = rw (sym e) refl

-- a list whose parts at the first point have no slash has none
no-slash-at-point : (bytes : List ℕ) → has_no_slash (before_first is_point bytes) ≡ true → has_no_slash (after_first is_point bytes) ≡ true
    → has_no_slash bytes ≡ true
no-slash-at-point [] before after = refl
no-slash-at-point (b ∷ bytes) before after = step (is_point b) refl (no-slash-at-point bytes) before after
  where
    point : (b : ℕ) → true ≡ is_point b → not (is_slash b) ≡ true
    point b is = grind (arith, nat_tests)

    step : (t : Bool) → t ≡ is_point b
        → (has_no_slash (before_first is_point bytes) ≡ true → has_no_slash (after_first is_point bytes) ≡ true → has_no_slash bytes ≡ true)
        → has_no_slash (before_first is_point (b ∷ bytes)) ≡ true
        → has_no_slash (after_first is_point (b ∷ bytes)) ≡ true → has_no_slash (b ∷ bytes) ≡ true
    step true e rest p q = and_from _ _ (point b e) (sym (ap has_no_slash (after-here is_point b bytes e)) ∙ q)
    step false e rest p q =
        let parts = and_parts (not (is_slash b)) (has_no_slash (before_first is_point bytes)) (sym (ap has_no_slash (before-next is_point b bytes e)) ∙ p) in
        and_from _ _ parts.0 (rest parts.1 (sym (ap has_no_slash (after-next is_point b bytes e)) ∙ q))

-- a word of an optional sign and digits has no slash
no-slash-after-sign : (bytes : List ℕ) → are_digits (without_sign bytes) ≡ true → has_no_slash bytes ≡ true
no-slash-after-sign [] are = refl
no-slash-after-sign (b ∷ bytes) are = step (is_sign b) refl are
  where
    signs : (b : ℕ) → true ≡ is_sign b → not (is_slash b) ≡ true
    signs b is = grind (arith, nat_tests)

    step : (t : Bool) → t ≡ is_sign b → are_digits (without_sign (b ∷ bytes)) ≡ true → has_no_slash (b ∷ bytes) ≡ true
    step true e = rw (sym e) (λ p. and_from _ _ (signs b e) (no-slash-in-digits bytes (and_parts _ _ p).1))
    step false e = rw (sym e) (λ p. no-slash-in-digits (b ∷ bytes) (and_parts _ _ p).1)

no-slash-at-mark : (bytes : List ℕ) → is_exponent (drop (position_or_len is_exponent_mark bytes) bytes) ≡ true
    → has_no_slash (before_first is_exponent_mark bytes) ≡ true → has_no_slash bytes ≡ true
no-slash-at-mark [] is before = refl
no-slash-at-mark (b ∷ bytes) is before = step (is_exponent_mark b) refl (no-slash-at-mark bytes) is before
  where
    mark : (b : ℕ) → true ≡ is_exponent_mark b → not (is_slash b) ≡ true
    mark b is = grind (arith, nat_tests)

    step : (t : Bool) → t ≡ is_exponent_mark b
        → (is_exponent (drop (position_or_len is_exponent_mark bytes) bytes) ≡ true → has_no_slash (before_first is_exponent_mark bytes) ≡ true → has_no_slash bytes ≡ true)
        → is_exponent (drop (position_or_len is_exponent_mark (b ∷ bytes)) (b ∷ bytes)) ≡ true
        → has_no_slash (before_first is_exponent_mark (b ∷ bytes)) ≡ true → has_no_slash (b ∷ bytes) ≡ true
    step true e rest p q = and_from _ _ (mark b e) (no-slash-after-sign bytes (sym (ap is_exponent (from-here is_exponent_mark b bytes e)) ∙ p))
    step false e rest p q =
        let parts = and_parts (not (is_slash b)) (has_no_slash (before_first is_exponent_mark bytes)) (sym (ap has_no_slash (before-next is_exponent_mark b bytes e)) ∙ q) in
        and_from _ _ parts.0 (rest (sym (ap is_exponent (from-next is_exponent_mark b bytes e)) ∙ p) parts.1)

no-slash-in-decimal : (word : List ℕ) → is_decimal word ≡ true → has_no_slash (without_sign word) ≡ true
no-slash-in-decimal word is =
    let parts = and_parts _ _ is in
    let digits = (and_parts _ _ parts.0).1 in
    let both = and_parts _ _ (sym (list_all-append is_digit (whole_digits word) (fraction_digits word)) ∙ digits) in
    no-slash-at-mark (without_sign word) parts.1
    (no-slash-at-point (decimal_part word) (no-slash-in-digits (whole_digits word) both.0) (no-slash-in-digits (fraction_digits word) both.1))

slash-nowhere : (bytes : List ℕ) → has_no_slash bytes ≡ true → position_or_len is_slash bytes ≡ length bytes
slash-nowhere [] none = refl
slash-nowhere (b ∷ bytes) none = step (is_slash b) refl (slash-nowhere bytes) none
  where
    step : (t : Bool) → t ≡ is_slash b → (has_no_slash bytes ≡ true → position_or_len is_slash bytes ≡ length bytes)
        → not t && has_no_slash bytes ≡ true → position_or_len is_slash (b ∷ bytes) ≡ length (b ∷ bytes)
    step true e rest p = absurd (true≢false (sym p))
    step false e rest p = rw (sym e) (omega (arith, rest p))

pub decimal-no-fraction : (word : List ℕ) → is_decimal word ≡ true → is_fraction word ≡ false
decimal-no-fraction word is =
    let at : position_or_len is_slash (without_sign word) ≡ length (without_sign word) = slash-nowhere (without_sign word) (no-slash-in-decimal word is) in
    let none : denominator_digits word ≡ [] = ap (λ n. drop (n + 1) (without_sign word)) at ∙ drop_all (length (without_sign word) + 1) (without_sign word) (omega arith) in
    no-denominator (are_digits (numerator_digits word)) (denominator_digits word) none
  where
    no-denominator : (b : Bool) (digits : List ℕ) → digits ≡ [] → b && are_digits digits && nat_lt 0 (number_of_digits digits) ≡ false
    no-denominator true digits e = rw e refl
    no-denominator false digits e = refl

-- a numeral that is no fraction is a decimal
pub decimal-of : (word : List ℕ) → is_numeral word ≡ true → is_fraction word ≡ false → is_decimal word ≡ true
decimal-of word numeral other = only (is_decimal word) (is_fraction word) numeral other
  where
    only : (b c : Bool) → b || c ≡ true → c ≡ false → b ≡ true
    only true c p q = refl
    only false c p q = absurd (true≢false (sym p ∙ q))
