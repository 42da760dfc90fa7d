-- Numerals of a sign, digits, a point and digits: a power of ten that makes the digits after the point whole makes the numeral
-- whole.
use Rattle.std.proofs.Common.{◌≡◌, ℕ, zero, suc, ◌+◌, ◌-◌, ◌*◌, ◌/◌, ◌^◌, ◌<◌, Bool, true, false, not, ◌&&◌, nat_lt, List, [], ◌∷◌, ◌++◌, length, drop, take, add-one, arith, refl, ap, sym, subst, ◌∙◌, true≢false, if◌then◌else◌}
use Rattle.std.specs.Int.{◌∣◌}
use Rattle.std.specs.List.{list_all, position_or_len, before_first, after_first, fold}
use Rattle.std.proofs.lemmas.Bool.{and_parts, and_from}
use Rattle.std.proofs.lemmas.Bool.Decides.{nat_tests}
use Rattle.std.proofs.lemmas.Grind.{pow_more}
use Rattle.std.proofs.lemmas.List.{take_all, drop_all}
use Rattle.std.proofs.lemmas.List.Folds.{list_all-append}
use Rattle.std.proofs.lemmas.List.Sums.{fold-append}
use Rattle.std.proofs.lemmas.Nat.Gcd.{dvd-zero}
use Rattle.std.proofs.Math.Nat.{dvd-add, dvd-mul_left, dvd_of_mul-dvd-mul_right, div-mul_cancel, mul_assoc, mul-one, one-dvd}
use Rattle.std.proofs.Math.Seq.{take-append_seam}
use Rattle.subdiv_model.specs.Digits.{is_digit, number_of_digits}
use Rattle.subdiv_model.specs.Fractions.{gcd_of, lowest}
use Rattle.subdiv_model.specs.Numeral.{without_sign, are_digits, is_exponent_mark, exponent_part, exponent_amount, exponent_has_minus, decimal_part, is_point, is_slash, all_digits, fraction_digits, numerator_digits, denominator_digits, tens_above, tens_below, normal_amount, is_fraction, numeral_amount, numeral_form}
use Rattle.number_laws.proofs.CoprimeLemmas.{coprime-gcd}
use Rattle.number_laws.proofs.DivisorLemmas.{gcd-positive, gcd-scaled, lowest-coprime, lowest-same}
use Rattle.number_laws.proofs.FractionLemmas.{gcd_of-is}
use Rattle.obj_laws.proofs.NumeralValueLemmas.{tens, word-reduced}

-- a denominator in lowest terms divides what makes its fraction whole
lowest-over : (a b c : ℕ) → 0 < b → b ∣ c * a → (lowest (a, b)).1 ∣ c
lowest-over a b zero positive whole = dvd-zero _
lowest-over a b (suc k) positive whole =
    let c = suc k in
    let g = gcd_of a b in
    let is = gcd_of-is a b in
    let factored : c * a ≡ c * (a / g) * g = ap (λ n. c * n) (sym (div-mul_cancel g is.0)) ∙ sym (mul_assoc c (a / g) g) in
    let scaled : b / g * g ∣ c * (a / g) * g =
    subst (λ n. b / g * g ∣ n) factored (subst (λ n. n ∣ c * a) (sym (div-mul_cancel g is.1)) whole) in
    let first : b / g ∣ c * (a / g) = dvd_of_mul-dvd-mul_right (b / g) (gcd-positive a b positive) scaled in
    let second : b / g ∣ c * (b / g) = dvd-mul_left (b / g) c in
    let both : b / g ∣ gcd_of (c * (a / g)) (c * (b / g)) = (gcd_of-is (c * (a / g)) (c * (b / g))).2 (b / g) first second in
    let common : gcd_of (c * (a / g)) (c * (b / g)) ≡ c =
    gcd-scaled c (a / g) (b / g) (omega arith) ∙ ap (λ n. c * n) (coprime-gcd (a / g) (b / g) (lowest-coprime a b positive)) ∙ mul-one c in
    subst (λ n. b / g ∣ n) common both

-- a decimal is whole over a common denominator if its digits over its tens are
tens-over : (word : List ℕ) (common : ℕ) → is_fraction word ≡ false
    → 10 ^ tens_below word ∣ common * (number_of_digits (all_digits word) * 10 ^ tens_above word) → (numeral_form word).1 ∣ common
tens-over word common other whole =
    let form = normal_amount word in
    let n = number_of_digits (all_digits word) * 10 ^ tens_above word in
    let same : lowest (form.0, 10 ^ form.1) ≡ lowest (n, 10 ^ tens_below word) =
    lowest-same form.0 (10 ^ form.1) n (10 ^ tens_below word) (tens form.1) (tens (tens_below word)) (word-reduced word).value in
    let terms : numeral_amount word ≡ lowest (n, 10 ^ tens_below word) = rw other same in
    subst (λ (t : ℕ × ℕ). t.1 ∣ common) (sym terms) (lowest-over n (10 ^ tens_below word) common (tens (tens_below word)) whole)

-- digits before others count a power of ten
digits-from : (a : ℕ) (digits : List ℕ) → fold (λ n b. n * 10 + (b - 48)) a digits ≡ a * 10 ^ length digits + number_of_digits digits
digits-from a [] = omega arith
digits-from a (b ∷ digits) =
    let power : 10 ^ suc (length digits) ≡ 10 ^ length digits * 10 = ap (λ n. 10 ^ n) (sym (add-one (length digits))) ∙ pow_more 10 (length digits) in
    digits-from (a * 10 + (b - 48)) digits
    ∙ regroup a (b - 48) (10 ^ length digits) (number_of_digits digits)
    ∙ ap (λ m. a * (10 ^ length digits * 10) + m) (sym (digits-from (0 * 10 + (b - 48)) digits))
    ∙ ap (λ p. a * p + number_of_digits (b ∷ digits)) (sym power)
  where
    regroup : (a d p f : ℕ) → (a * 10 + d) * p + f ≡ a * (p * 10) + ((0 * 10 + d) * p + f)
    regroup a d p f = omega arith

both-digits : (whole fraction : List ℕ) → number_of_digits (whole ++ fraction) ≡ number_of_digits whole * 10 ^ length fraction + number_of_digits fraction
both-digits whole fraction = fold-append (λ n b. n * 10 + (b - 48)) 0 whole fraction ∙ digits-from (number_of_digits whole) fraction

-- no byte is of this kind, and the first byte is of this kind
abbrev pub lacks : (ℕ → Bool) → List ℕ → Bool
lacks p bytes = list_all (λ b. not (p b)) bytes

pub nowhere : (p : ℕ → Bool) (bytes : List ℕ) → lacks p bytes ≡ true → position_or_len p bytes ≡ length bytes
nowhere p [] none = refl
nowhere p (b ∷ bytes) none = step (p b) refl (nowhere p bytes) none
  where
    step : (t : Bool) → t ≡ p b → (lacks p bytes ≡ true → position_or_len p bytes ≡ length bytes)
        → not t && lacks p bytes ≡ true → position_or_len p (b ∷ bytes) ≡ length (b ∷ bytes)
    step true e rest q = absurd (true≢false (sym q))
    step false e rest q = rw (sym e) (omega (arith, rest q))

pub at-seam : (p : ℕ → Bool) (xs : List ℕ) (y : ℕ) (ys : List ℕ) → lacks p xs ≡ true → p y ≡ true → position_or_len p (xs ++ y ∷ ys) ≡ length xs
at-seam p [] y ys none is = rw is refl
at-seam p (x ∷ xs) y ys none is = step (p x) refl (λ h. at-seam p xs y ys h is) none
  where
    step : (t : Bool) → t ≡ p x → (lacks p xs ≡ true → position_or_len p (xs ++ y ∷ ys) ≡ length xs)
        → not t && lacks p xs ≡ true → position_or_len p (x ∷ (xs ++ y ∷ ys)) ≡ length (x ∷ xs)
    step true e rest q = absurd (true≢false (sym q))
    step false e rest q = rw (sym e) (omega (arith, rest q))

pub drop-seam : (xs : List ℕ) (y : ℕ) (ys : List ℕ) → drop (length xs + 1) (xs ++ y ∷ ys) ≡ ys
drop-seam [] y ys = refl
drop-seam (x ∷ xs) y ys =
    let more : length (x ∷ xs) + 1 ≡ suc (length xs + 1) = omega arith in ap (λ n. drop n (x ∷ (xs ++ y ∷ ys))) more ∙ drop-seam xs y ys

-- digits are bytes of no other kind
pub digits-lack : (p : ℕ → Bool) → ((b : ℕ) → is_digit b ≡ true → not (p b) ≡ true) → (bytes : List ℕ) → list_all is_digit bytes ≡ true → lacks p bytes ≡ true
digits-lack p other [] are = refl
digits-lack p other (b ∷ bytes) are =
    let parts = and_parts (is_digit b) (list_all is_digit bytes) are in
    and_from _ _ (other b parts.0) (digits-lack p other bytes parts.1)

pub no-mark : (b : ℕ) → is_digit b ≡ true → not (is_exponent_mark b) ≡ true
no-mark b is = grind (arith, nat_tests)

pub no-slash : (b : ℕ) → is_digit b ≡ true → not (is_slash b) ≡ true
no-slash b is = grind (arith, nat_tests)

pub no-point : (b : ℕ) → is_digit b ≡ true → not (is_point b) ≡ true
no-point b is = grind (arith, nat_tests)

both-lack : (p : ℕ → Bool) (xs ys : List ℕ) (y : ℕ) → lacks p xs ≡ true → not (p y) ≡ true → lacks p ys ≡ true → lacks p (xs ++ y ∷ ys) ≡ true
both-lack p xs ys y first mid last = list_all-append (λ b. not (p b)) xs (y ∷ ys) ∙ and_from _ _ first (and_from _ _ mid last)

-- a word without an exponent: its decimal part is these bytes, and the tens below it are the digits after the point
pub record HasNoExponent (word bytes : List ℕ) : Type 0 where
  pub part : decimal_part word ≡ bytes
  pub above : tens_above word ≡ 0
  pub below : tens_below word ≡ length (fraction_digits word)

pub no-exponent : (word bytes : List ℕ) → without_sign word ≡ bytes → lacks is_exponent_mark bytes ≡ true → HasNoExponent word bytes
no-exponent word bytes e none =
    let at : position_or_len is_exponent_mark (without_sign word) ≡ length (without_sign word) =
    nowhere is_exponent_mark (without_sign word) (ap (lacks is_exponent_mark) e ∙ none) in
    let rest : exponent_part word ≡ [] = drop_all _ (without_sign word) (omega (arith, at)) in
    record {
      part = take_all _ (without_sign word) (omega (arith, at)) ∙ e;
      above = none-above (exponent_part word) rest;
      below = below (exponent_part word) (length (fraction_digits word)) rest;
    }
  where
    below : (exponent : List ℕ) (n : ℕ) → exponent ≡ [] → (if exponent_has_minus exponent then n + exponent_amount exponent else n) ≡ n
    below exponent n e = rw e refl

    none-above : (exponent : List ℕ) → exponent ≡ [] → (if exponent_has_minus exponent then 0 else exponent_amount exponent) ≡ 0
    none-above exponent e = rw e refl

pub no-fraction : (word bytes : List ℕ) → without_sign word ≡ bytes → lacks is_slash bytes ≡ true → is_fraction word ≡ false
no-fraction word bytes e none =
    let at : position_or_len is_slash (without_sign word) ≡ length (without_sign word) =
    nowhere is_slash (without_sign word) (ap (lacks is_slash) e ∙ none) in
    let rest : denominator_digits word ≡ [] = drop_all _ (without_sign word) (omega (arith, at)) in
    no-denominator (are_digits (numerator_digits word)) (denominator_digits word) rest
  where
    no-denominator : (b : Bool) (digits : List ℕ) → digits ≡ [] → b && are_digits digits && nat_lt 0 (number_of_digits digits) ≡ false
    no-denominator true digits e = rw e refl
    no-denominator false digits e = refl

-- what makes the digits after the point whole is a multiple of the denominator
plain-over : (word bytes whole fraction : List ℕ) (common : ℕ) → without_sign word ≡ bytes → lacks is_exponent_mark bytes ≡ true
    → lacks is_slash bytes ≡ true → before_first is_point bytes ≡ whole → after_first is_point bytes ≡ fraction
    → 10 ^ length fraction ∣ common * number_of_digits fraction → (numeral_form word).1 ∣ common
plain-over word bytes whole fraction common e marks slashes before after over =
    let is = no-exponent word bytes e marks in
    let first : before_first is_point (decimal_part word) ≡ whole = ap (before_first is_point) is.part ∙ before in
    let second : fraction_digits word ≡ fraction = ap (after_first is_point) is.part ∙ after in
    let below : 10 ^ tens_below word ≡ 10 ^ length fraction = ap (λ k. 10 ^ k) (is.below ∙ ap length second) in
    let w = number_of_digits whole in
    let f = number_of_digits fraction in
    let p = 10 ^ length fraction in
    let digits : number_of_digits (all_digits word) ≡ w * p + f =
    ap (λ x. number_of_digits (x ++ fraction_digits word)) first ∙ ap (λ x. number_of_digits (whole ++ x)) second ∙ both-digits whole fraction in
    let amount : number_of_digits (all_digits word) * 10 ^ tens_above word ≡ w * p + f =
    ap (λ k. number_of_digits (all_digits word) * 10 ^ k) is.above ∙ mul-one (number_of_digits (all_digits word)) ∙ digits in
    let product : common * (number_of_digits (all_digits word) * 10 ^ tens_above word) ≡ common * w * p + common * f =
    ap (λ n. common * n) amount ∙ spread common w p f in
    let whole_over : p ∣ common * w * p + common * f = dvd-add p (dvd-mul_left p (common * w)) over in
    tens-over word common (no-fraction word bytes e slashes)
    (subst (λ n. n ∣ common * (number_of_digits (all_digits word) * 10 ^ tens_above word)) (sym below) (subst (λ n. p ∣ n) (sym product) whole_over))
  where
    spread : (c w p f : ℕ) → c * (w * p + f) ≡ c * w * p + c * f
    spread c w p f = omega arith

-- digits without a point, and digits on both sides of a point
pub whole-over : (word whole : List ℕ) (common : ℕ) → without_sign word ≡ whole → list_all is_digit whole ≡ true → (numeral_form word).1 ∣ common
whole-over word whole common e digits =
    let at : position_or_len is_point whole ≡ length whole = nowhere is_point whole (digits-lack is_point no-point whole digits) in
    plain-over word whole whole [] common e (digits-lack is_exponent_mark no-mark whole digits) (digits-lack is_slash no-slash whole digits)
    (take_all _ whole (omega (arith, at))) (drop_all _ whole (omega (arith, at))) (one-dvd (common * 0))

pub point-over : (word whole fraction : List ℕ) (common : ℕ) → without_sign word ≡ whole ++ 46 ∷ fraction → list_all is_digit whole ≡ true
    → list_all is_digit fraction ≡ true → 10 ^ length fraction ∣ common * number_of_digits fraction → (numeral_form word).1 ∣ common
point-over word whole fraction common e digits more =
    let at : position_or_len is_point (whole ++ 46 ∷ fraction) ≡ length whole =
    at-seam is_point whole 46 fraction (digits-lack is_point no-point whole digits) refl in
    plain-over word (whole ++ 46 ∷ fraction) whole fraction common e
    (both-lack is_exponent_mark whole fraction 46 (digits-lack is_exponent_mark no-mark whole digits) refl (digits-lack is_exponent_mark no-mark fraction more))
    (both-lack is_slash whole fraction 46 (digits-lack is_slash no-slash whole digits) refl (digits-lack is_slash no-slash fraction more))
    (ap (λ n. take n (whole ++ 46 ∷ fraction)) at ∙ take-append_seam whole (46 ∷ fraction))
    (ap (λ n. drop (n + 1) (whole ++ 46 ∷ fraction)) at ∙ drop-seam whole 46 fraction)
