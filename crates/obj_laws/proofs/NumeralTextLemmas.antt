-- A normal form that is written as a numeral reads back as itself.
use Rattle.std.proofs.Common.{◌≡◌, ◌≢◌, ℕ, zero, suc, ◌+◌, ◌-◌, ◌*◌, ◌%◌, ◌^◌, ◌<◌, ℤ, pos, negsuc, unsigned_abs, Bool, true, false, ◌&&◌, nat_eq, List, [], ◌∷◌, ◌++◌, length, map, take, drop, arith, lit≤, refl, ap, sym, subst, ◌∙◌, if◌then◌else◌, append-nil, ⊎_elim}
use Rattle.std.specs.Int.Digits.{digits_of, number_from_digits_after, AllBelowBase}
use Rattle.std.specs.List.{fold, list_all, position_or_len, before_first, after_first}
use Rattle.std.proofs.lemmas.Bool.{cases_eq, and_parts, ne_eqb, eq-eqb, le-leb, cond-true, cond-false}
use Rattle.std.proofs.lemmas.Bool.Decides.{nat_tests}
use Rattle.std.proofs.lemmas.Int.Digits.{number_digits_of, all_below_base_digits_of, length-digits_of_step}
use Rattle.std.proofs.lemmas.List.{take_at, drop_at, drop_all, length-map}
use Rattle.subdiv_model.specs.Numeral.{are_digits, is_sign, without_sign, signed, is_exponent_mark, is_point, decimal_part, exponent_part, fraction_digits, all_digits, exponent_amount, exponent_has_minus, is_exponent, is_decimal, cancelled, normal_amount, normal_form, form_text}
use Rattle.subdiv_model.specs.NumberText.{number_text}
use Rattle.subdiv_model.specs.Digits.{is_digit, number_of_digits, has_minus}
use Rattle.number_laws.proofs.DecimalLemmas.{number_text-digits}
use Rattle.obj_laws.proofs.NumeralLemmas.{cancelled-stays}
use Rattle.obj_laws.proofs.NumeralValueLemmas.{word-reduced, signed-amount}

-- the bytes of a number's digits
number-map : (n : ℕ) (ds : List ℕ) → fold (λ m b. m * 10 + (b - 48)) n (map (λ d. d + 48) ds) ≡ number_from_digits_after 10 n ds
number-map n [] = refl
number-map n (d ∷ ds) =
    let same : d + 48 - 48 ≡ d = omega arith in
    ap (λ x. fold (λ m b. m * 10 + (b - 48)) (n * 10 + x) (map (λ e. e + 48) ds)) same ∙ number-map (n * 10 + d) ds

all-map : (ds : List ℕ) → AllBelowBase 10 ds → list_all is_digit (map (λ d. d + 48) ds) ≡ true
all-map [] below = refl
all-map (d ∷ ds) below =
    let digit : d < 10 = below.0 in
    let rest = all-map ds below.1 in
    grind (arith, nat_tests, rest)

-- the bytes are digits, at least one, that are read as the number n
pub record IsText (n : ℕ) (bytes : List ℕ) : Type 0 where
  pub digits : list_all is_digit bytes ≡ true
  pub some : 0 < length bytes
  pub says : number_of_digits bytes ≡ n

text-zero : IsText 0 (48 ∷ [])
text-zero = record { digits = refl; some = omega arith; says = refl }

text-some : (n : ℕ) → n ≢ 0 → IsText n (map (λ d. d + 48) (digits_of 10 n))
text-some n some = record {
  digits = all-map (digits_of 10 n) (all_below_base_digits_of 10 n (lit≤ tt));
  some = omega (arith, length-map (digits_of 10 n) (λ (d : ℕ). d + 48), length-digits_of_step 10 n (lit≤ tt) (omega arith));
  says = number-map 0 (digits_of 10 n) ∙ number_digits_of 10 n (lit≤ tt);
}

pub text-of : (n : ℕ) → IsText n (number_text n)
text-of zero = text-zero
text-of (suc n) =
    let some : suc n ≢ 0 = λ none. omega arith in
    subst (IsText (suc n)) (sym (number_text-digits (suc n) some)) (text-some (suc n) some)

pub text-digits : (n : ℕ) (bytes : List ℕ) → IsText n bytes → are_digits bytes ≡ true
text-digits n bytes is =
    let some = le-leb 1 (length bytes) (omega (arith, is.some)) in rw (some, is.digits) refl

-- digits are neither signs nor marks nor points
digit-other : (b : ℕ) → is_digit b ≡ true
    → (is_sign b ≡ false) × (is_exponent_mark b ≡ false) × (is_point b ≡ false) × (nat_eq b 45 ≡ false)
digit-other b is = (grind (arith, nat_tests), grind (arith, nat_tests), grind (arith, nat_tests), grind (arith, nat_tests))

position-cons : (p : ℕ → Bool) (b : ℕ) (bytes : List ℕ) → p b ≡ false → position_or_len p (b ∷ bytes) ≡ 1 + position_or_len p bytes
position-cons p b bytes e = rw e refl

position-after : (bytes : List ℕ) (mark : ℕ) (rest : List ℕ) → list_all is_digit bytes ≡ true → is_exponent_mark mark ≡ true
    → position_or_len is_exponent_mark (bytes ++ mark ∷ rest) ≡ length bytes
position-after [] mark rest are is = rw is refl
position-after (b ∷ bytes) mark rest are is =
    let parts = and_parts (is_digit b) (list_all is_digit bytes) are in
    position-cons is_exponent_mark b (bytes ++ mark ∷ rest) (digit-other b parts.0).1 ∙ omega (arith, position-after bytes mark rest parts.1 is)

no-point : (bytes : List ℕ) → list_all is_digit bytes ≡ true → position_or_len is_point bytes ≡ length bytes
no-point [] are = refl
no-point (b ∷ bytes) are =
    let parts = and_parts (is_digit b) (list_all is_digit bytes) are in
    position-cons is_point b bytes (digit-other b parts.0).2 ∙ omega (arith, no-point bytes parts.1)

pub unsigned : (bytes rest : List ℕ) → 0 < length bytes → list_all is_digit bytes ≡ true
    → (without_sign (bytes ++ rest) ≡ bytes ++ rest) × (has_minus (bytes ++ rest) ≡ false)
unsigned [] rest some are = absurd (omega arith)
unsigned (b ∷ bytes) rest some are =
    let parts = and_parts (is_digit b) (list_all is_digit bytes) are in
    (cond-false _ _ _ (digit-other b parts.0).0, (digit-other b parts.0).3)

-- the parts of a text of digits with an exponent below 0
record HasParts (word digits exponent : List ℕ) (negative : Bool) : Type 0 where
  sign : has_minus word ≡ negative
  rest : without_sign word ≡ digits ++ (101 ∷ (45 ∷ exponent))

abbrev pub is_below : ℤ → Bool
is_below (pos n) = false
is_below (negsuc n) = true

parts-of : (m : ℤ) (d : ℕ) → HasParts (form_text (m, d)) (number_text (unsigned_abs m)) (number_text d) (is_below m)
parts-of (pos n) d =
    let digits = text-of n in
    let none = unsigned (number_text n) (101 ∷ (45 ∷ number_text d)) digits.some digits.digits in
    record { sign = none.1; rest = none.0 }
parts-of (negsuc n) d = record { sign = refl; rest = refl }

pub signed-back : (m : ℤ) → signed (is_below m) (unsigned_abs m) ≡ m
signed-back (pos n) = refl
signed-back (negsuc n) = refl

record AreParts (word digits exponent : List ℕ) : Type 0 where
  decimal : all_digits word ≡ digits
  fraction : fraction_digits word ≡ []
  power : exponent_part word ≡ 101 ∷ (45 ∷ exponent)

split-point : (digits : List ℕ) → list_all is_digit digits ≡ true
    → (before_first is_point digits ≡ digits) × (after_first is_point digits ≡ [])
split-point digits are =
    (ap (λ n. take n digits) (no-point digits are) ∙ ap (λ l. take (length digits) l) (sym (append-nil digits)) ∙ take_at digits [] (length digits) refl, ap (λ n. drop (n + 1) digits) (no-point digits are) ∙ drop_all (length digits + 1) digits (omega arith))

split-parts : (word digits exponent : List ℕ) → without_sign word ≡ digits ++ (101 ∷ (45 ∷ exponent)) → list_all is_digit digits ≡ true
    → AreParts word digits exponent
split-parts word digits exponent e are =
    let at : position_or_len is_exponent_mark (without_sign word) ≡ length digits =
    ap (position_or_len is_exponent_mark) e ∙ position-after digits 101 (45 ∷ exponent) are refl in
    let decimal : decimal_part word ≡ digits =
    ap (λ n. take n (without_sign word)) at ∙ ap (take (length digits)) e ∙ take_at digits (101 ∷ (45 ∷ exponent)) (length digits) refl in
    let halves = split-point digits are in
    record {
      decimal =
          ap (λ part. before_first is_point part ++ after_first is_point part) decimal
          ∙ ap (λ l. l ++ after_first is_point digits) halves.0
          ∙ ap (λ l. digits ++ l) halves.1
          ∙ append-nil digits;
      fraction = ap (after_first is_point) decimal ∙ halves.1;
      power = ap (λ n. drop n (without_sign word)) at ∙ ap (drop (length digits)) e ∙ drop_at digits (101 ∷ (45 ∷ exponent)) (length digits) refl;
    }

text-parts : (m : ℤ) (d : ℕ) → AreParts (form_text (m, d)) (number_text (unsigned_abs m)) (number_text d)
text-parts m d = split-parts (form_text (m, d)) _ _ (parts-of m d).rest (text-of (unsigned_abs m)).digits

pub text-decimal : (m : ℤ) (d : ℕ) → is_decimal (form_text (m, d)) ≡ true
text-decimal m d =
    let parts = text-parts m d in
    ap (λ digits. are_digits digits && is_exponent (exponent_part (form_text (m, d)))) parts.decimal
    ∙ ap (λ power. are_digits (number_text (unsigned_abs m)) && is_exponent power) parts.power
    ∙ rw (text-digits _ _ (text-of (unsigned_abs m)), text-digits _ _ (text-of d)) refl

-- what the normal form's amount and decimals are read from
abbrev amount_from : List ℕ → List ℕ → List ℕ → ℕ × ℕ
amount_from digits fraction power =
    if nat_eq (number_of_digits digits) 0 then (0, 0) else cancelled (number_of_digits digits * 10 ^ (if exponent_has_minus power then 0 else exponent_amount power)) (if exponent_has_minus power then length fraction + exponent_amount power else length fraction)

reduced-stays : (n d : ℕ) → (n % 10 ≡ 0 → d ≡ 0) → (if nat_eq n 0 then (0, 0) else cancelled (n * 10 ^ 0) (0 + d)) ≡ (n, d)
reduced-stays n d ends =
    ⊎_elim
    (λ (none : n ≡ 0).
    let zero_decimals : d ≡ 0 = ends (ap (λ x. x % 10) none) in
    cond-true _ _ _ (eq-eqb n 0 none) ∙ ap (λ x. (x, 0)) (sym none) ∙ ap (λ k. (n, k)) (sym zero_decimals))
    (λ (some : n ≢ 0).
    let one : n * 10 ^ 0 ≡ n = omega arith in
    let same : 0 + d ≡ d = omega arith in
    cond-false _ _ _ (ne_eqb n 0 some) ∙ ap (λ x. cancelled x (0 + d)) one ∙ ap (cancelled n) same ∙ kept n d ends)
    (cases_eq n 0)
  where
    kept : (n d : ℕ) → (n % 10 ≡ 0 → d ≡ 0) → cancelled n d ≡ (n, d)
    kept n zero ends = refl
    kept n (suc d) ends = cancelled-stays n d (λ none. absurd (omega (arith, ends none)))

text-amount : (m : ℤ) (d : ℕ) → (unsigned_abs m % 10 ≡ 0 → d ≡ 0) → normal_amount (form_text (m, d)) ≡ (unsigned_abs m, d)
text-amount m d ends =
    let parts = text-parts m d in
    let word = form_text (m, d) in
    ap (λ digits. amount_from digits (fraction_digits word) (exponent_part word)) parts.decimal
    ∙ ap (λ fraction. amount_from (number_text (unsigned_abs m)) fraction (exponent_part word)) parts.fraction
    ∙ ap (λ power. amount_from (number_text (unsigned_abs m)) [] power) parts.power
    ∙ ap (λ n. if nat_eq n 0 then (0, 0) else cancelled (n * 10 ^ 0) (0 + number_of_digits (number_text d))) (text-of (unsigned_abs m)).says
    ∙ ap (λ k. if nat_eq (unsigned_abs m) 0 then (0, 0) else cancelled (unsigned_abs m * 10 ^ 0) (0 + k)) (text-of d).says
    ∙ reduced-stays (unsigned_abs m) d ends

text-form : (m : ℤ) (d : ℕ) → (unsigned_abs m % 10 ≡ 0 → d ≡ 0) → normal_form (form_text (m, d)) ≡ (m, d)
text-form m d ends =
    ap (λ (form : ℕ × ℕ). (signed (has_minus (form_text (m, d))) form.0, form.1)) (text-amount m d ends)
    ∙ ap (λ negative. (signed negative (unsigned_abs m), d)) (parts-of m d).sign
    ∙ ap (λ z. (z, d)) (signed-back m)

pub form-read-back : (word : List ℕ) → normal_form (form_text (normal_form word)) ≡ normal_form word
form-read-back word =
    text-form (normal_form word).0 (normal_form word).1
    (λ none. (word-reduced word).ends (ap (λ n. n % 10) (sym (signed-amount (has_minus word) (normal_amount word).0)) ∙ none))

pub form-decimal : (word : List ℕ) → is_decimal (form_text (normal_form word)) ≡ true
form-decimal word = text-decimal (normal_form word).0 (normal_form word).1
