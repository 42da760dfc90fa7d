-- A fraction of whole numbers, with a sign before it or without, is read back from its text.
use Rattle.std.proofs.Common.{◌≡◌, ◌≢◌, ℕ, ℤ, pos, negsuc, ◌+◌, ◌*◌, ◌^◌, ◌<◌, Bool, true, false, ◌&&◌, ◌||◌, nat_eq, nat_lt, nat_le, List, [], ◌∷◌, ◌++◌, length, take, drop, arith, refl, ap, sym, subst, ◌∙◌, append-nil, if◌then◌else◌, ⊎_elim}
use Rattle.std.specs.List.{position_or_len, before_first, after_first}
use Rattle.std.proofs.lemmas.Bool.{cases_eq, ne_eqb, eq-eqb, and_from, cond_both, cond-true, cond-false, lt-ltb, eqb-true}
use Rattle.std.proofs.lemmas.List.{take_all, drop_all}
use Rattle.std.proofs.Math.Seq.{take-append_seam}
use Rattle.subdiv_model.specs.Digits.{number_of_digits, has_minus}
use Rattle.subdiv_model.specs.Fractions.{lowest}
use Rattle.subdiv_model.specs.Numeral.{are_digits, without_sign, is_exponent_mark, is_exponent, exponent_part, is_point, is_slash, fraction_digits, all_digits, tens_above, tens_below, numerator_digits, denominator_digits, is_decimal, is_fraction, is_numeral, is_in_range, cancelled, normal_amount, numeral_amount}
use Rattle.subdiv_model.specs.ObjTag.{is_too_fine_numeral}
use Rattle.subdiv_model.specs.NumberText.{number_text, sign_text, ratio_text}
use Rattle.number_laws.proofs.DivisorLemmas.{lowest-same}
use Rattle.obj_laws.proofs.NumeralValueLemmas.{tens, word-reduced}
use Rattle.obj_laws.proofs.NumeralTextLemmas.{text-of, text-digits, unsigned, is_below}
use Rattle.obj_laws.proofs.PlainNumeralLemmas.{nowhere, at-seam, drop-seam, digits-lack, no-mark, no-slash, no-point, no-exponent, no-fraction}
use Rattle.text_laws.proofs.NumberLemmas.{number-digits, number-some, number-back}

-- the amount of a word that is no fraction, before its tens cancel
decimal-amount : (word : List ℕ) → is_fraction word ≡ false
    → numeral_amount word ≡ lowest (number_of_digits (all_digits word) * 10 ^ tens_above word, 10 ^ tens_below word)
decimal-amount word other =
    let form = normal_amount word in
    rw other (lowest-same form.0 (10 ^ form.1) (number_of_digits (all_digits word) * 10 ^ tens_above word) (10 ^ tens_below word) (tens form.1) (tens (tens_below word)) (word-reduced word).value)

-- the text of a fraction without its sign: its amount, and when it is in range as a coordinate and as a sharpness
pub record IsRatio (word : List ℕ) (a b : ℕ) : Type 0 where
  pub amount : numeral_amount word ≡ lowest (a, b)
  pub numeral : is_numeral word ≡ true
  pub range : nat_lt a (10 ^ 37) ≡ true → nat_lt b (10 ^ 37) ≡ true → is_in_range word ≡ true
  pub fine : nat_lt (10 ^ 6) (lowest (a, b)).1 ≡ false → is_too_fine_numeral word ≡ false

-- the normal form of a whole number
abbrev amount_of : ℕ → ℕ → ℕ → ℕ × ℕ
amount_of n above below = if nat_eq n 0 then (0, 0) else cancelled (n * 10 ^ above) below

whole-amount : (a : ℕ) → amount_of a 0 0 ≡ (a, 0)
whole-amount a =
    ⊎_elim
    (λ (none : a ≡ 0). cond-true _ (0, 0) _ (eq-eqb a 0 none) ∙ ap (λ n. (n, 0)) (sym none))
    (λ (some : a ≢ 0). let one : a * 10 ^ 0 ≡ a = omega arith in cond-false _ _ _ (ne_eqb a 0 some) ∙ ap (λ n. (n, 0)) one)
    (cases_eq a 0)

-- digits without a point are a decimal

whole : (word : List ℕ) (a : ℕ) → without_sign word ≡ number_text a → IsRatio word a 1
whole word a e =
    let digits = number_text a in
    let are = number-digits a in
    let marks = digits-lack is_exponent_mark no-mark digits are in
    let slashes = digits-lack is_slash no-slash digits are in
    let point : position_or_len is_point digits ≡ length digits = nowhere is_point digits (digits-lack is_point no-point digits are) in
    let mark : position_or_len is_exponent_mark digits ≡ length digits = nowhere is_exponent_mark digits marks in
    let is = no-exponent word digits e marks in
    let other = no-fraction word digits e slashes in
    let before : before_first is_point digits ≡ digits = take_all _ digits (omega (arith, point)) in
    let after : after_first is_point digits ≡ [] = drop_all _ digits (omega (arith, point)) in
    let fraction : fraction_digits word ≡ [] = ap (after_first is_point) is.part ∙ after in
    let all : all_digits word ≡ digits =
    ap (λ part. before_first is_point part ++ after_first is_point part) is.part
    ∙ ap (λ l. l ++ after_first is_point digits) before
    ∙ ap (λ l. digits ++ l) after
    ∙ append-nil digits in
    let exponent : exponent_part word ≡ [] =
    ap (λ bytes. drop (position_or_len is_exponent_mark bytes) bytes) e ∙ drop_all _ digits (omega (arith, mark)) in
    let below : tens_below word ≡ 0 = is.below ∙ ap length fraction in
    let number : number_of_digits (all_digits word) ≡ a = ap number_of_digits all ∙ number-back a in
    let one : a * 10 ^ 0 ≡ a = omega arith in
    let normal : normal_amount word ≡ (a, 0) =
    ap (λ n. amount_of n (tens_above word) (tens_below word)) number
    ∙ ap (λ k. amount_of a k (tens_below word)) is.above
    ∙ ap (amount_of a 0) below
    ∙ whole-amount a in
    let decimal : is_decimal word ≡ true =
    ap (λ bytes. are_digits bytes && is_exponent (exponent_part word)) all
    ∙ ap (λ power. are_digits digits && is_exponent power) exponent
    ∙ rw (text-digits a digits (text-of a)) refl in
    record {
      amount =
          decimal-amount word other
          ∙ ap (λ n. lowest (n * 10 ^ tens_above word, 10 ^ tens_below word)) number
          ∙ ap (λ k. lowest (a * 10 ^ k, 10 ^ tens_below word)) is.above
          ∙ ap (λ k. lowest (a * 10 ^ 0, 10 ^ k)) below
          ∙ ap (λ n. lowest (n, 1)) one;
      numeral = ap (λ b. b || is_fraction word) decimal;
      range = λ short _.
          cond-false _ _ _ other ∙ ap (λ (form : ℕ × ℕ). nat_lt form.0 (10 ^ 37) && nat_le form.1 37) normal ∙ ap (λ b. b && nat_le 0 37) short;
      fine = λ _. cond-false _ _ _ other ∙ ap (nat_lt 6) (cond-false _ 0 _ other ∙ ap (λ (form : ℕ × ℕ). form.1) normal);
    }

-- digits on both sides of a slash are a fraction
parts : (word : List ℕ) (a b : ℕ) → 0 < b → without_sign word ≡ number_text a ++ 47 ∷ number_text b → IsRatio word a b
parts word a b positive e =
    let first = number_text a in
    let second = number_text b in
    let at : position_or_len is_slash (first ++ 47 ∷ second) ≡ length first =
    at-seam is_slash first 47 second (digits-lack is_slash no-slash first (number-digits a)) refl in
    let over : numerator_digits word ≡ first =
    ap (before_first is_slash) e ∙ ap (λ n. take n (first ++ 47 ∷ second)) at ∙ take-append_seam first (47 ∷ second) in
    let under : denominator_digits word ≡ second =
    ap (after_first is_slash) e ∙ ap (λ n. drop (n + 1) (first ++ 47 ∷ second)) at ∙ drop-seam first 47 second in
    let some : nat_lt 0 (number_of_digits second) ≡ true = lt-ltb 0 _ (subst (λ n. 0 < n) (sym (number-back b)) positive) in
    let is : is_fraction word ≡ true =
    ap (λ digits. are_digits digits && are_digits (denominator_digits word) && nat_lt 0 (number_of_digits (denominator_digits word))) over
    ∙ ap (λ digits. are_digits first && are_digits digits && nat_lt 0 (number_of_digits digits)) under
    ∙ rw (text-digits a first (text-of a), text-digits b second (text-of b), some) refl in
    let numbers : numeral_amount word ≡ lowest (number_of_digits (numerator_digits word), number_of_digits (denominator_digits word)) = rw is refl in
    let num : number_of_digits (numerator_digits word) ≡ a = ap number_of_digits over ∙ number-back a in
    let den : number_of_digits (denominator_digits word) ≡ b = ap number_of_digits under ∙ number-back b in
    let amount : numeral_amount word ≡ lowest (a, b) =
    numbers ∙ ap (λ n. lowest (n, number_of_digits (denominator_digits word))) num ∙ ap (λ n. lowest (a, n)) den in
    record {
      amount = amount;
      range = λ p q.
          cond-true _ _ _ is
          ∙ ap (λ n. nat_lt n (10 ^ 37) && nat_lt (number_of_digits (denominator_digits word)) (10 ^ 37)) num
          ∙ ap (λ n. nat_lt a (10 ^ 37) && nat_lt n (10 ^ 37)) den
          ∙ and_from _ _ p q;
      fine = λ h. cond-true _ _ _ is ∙ ap (λ (terms : ℕ × ℕ). nat_lt (10 ^ 6) terms.1) amount ∙ h;
      numeral = either (is_decimal word) (is_fraction word) is;
    }
  where
    either : (b c : Bool) → c ≡ true → b || c ≡ true
    either true c e = refl
    either false c e = e

pub ratio-back : (word : List ℕ) (a b : ℕ) → 0 < b → without_sign word ≡ ratio_text (a, b) → IsRatio word a b
ratio-back word a b positive =
    cond_both (nat_eq b 1) (number_text a) (number_text a ++ 47 ∷ number_text b) (λ text. without_sign word ≡ text → IsRatio word a b)
    (λ one e. subst (IsRatio word a) (sym (eqb-true b 1 one)) (whole word a e)) (λ many e. parts word a b positive e)

-- the text of a fraction begins with a digit
pub ratio-unsigned : (a b : ℕ) → (without_sign (ratio_text (a, b)) ≡ ratio_text (a, b)) × (has_minus (ratio_text (a, b)) ≡ false)
ratio-unsigned a b =
    cond_both (nat_eq b 1) (number_text a) (number_text a ++ 47 ∷ number_text b) (λ text. (without_sign text ≡ text) × (has_minus text ≡ false))
    (λ one. subst (λ text. (without_sign text ≡ text) × (has_minus text ≡ false)) (append-nil (number_text a)) (unsigned (number_text a) [] (number-some a) (number-digits a)))
    (λ many. unsigned (number_text a) (47 ∷ number_text b) (number-some a) (number-digits a))

-- a sign before it is read as a sign
pub sign-back : (z : ℤ) (a b : ℕ)
    → (without_sign (sign_text z ++ ratio_text (a, b)) ≡ ratio_text (a, b)) × (has_minus (sign_text z ++ ratio_text (a, b)) ≡ is_below z)
sign-back (pos n) a b = ratio-unsigned a b
sign-back (negsuc n) a b = (refl, refl)
