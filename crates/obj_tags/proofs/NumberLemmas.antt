-- Numbers of OBJ text: kept numerals, numerators over a common denominator, and sharpness.
use Rattle.std.proofs.Common.{◌≡◌, ℕ, zero, suc, ◌+◌, ◌*◌, ◌^◌, ◌<◌, ◌≤◌, ℤ, pos, unsigned_abs, ◌*ℤ◌, Bool, true, false, ◌&&◌, ◌||◌, nat_lt, nat_le, List, None, Some, arith, refl, ap, sym, ◌∙◌, FitsSigned, if◌then◌else◌, ◌⊎◌, inl, inr}
use Rattle.std.specs.Int.{w128}
use Rattle.std.proofs.lemmas.Bool.Decides.{nat_tests}
use Rattle.std.proofs.lemmas.Grind.{pow_more}
use Rattle.std.specs.Int.Signed.{lt_z}
use Rattle.std.proofs.lemmas.Int.{fits_signed_from_abs, unsigned_abs-mul}
use Rattle.std.proofs.Math.Nat.{div-le_self}
use Rattle.obj_laws.proofs.RangeLemmas.{kept-range, grows}
use Rattle.subdiv_model.specs.Fractions.{gcd_of, lowest}
use Rattle.subdiv_model.specs.Numeral.{is_numeral, is_fraction, is_in_range, signed, numerator_digits, denominator_digits, normal_amount, numeral_amount, numeral_form, decimals_of}
use Rattle.subdiv_model.specs.Digits.{number_of_digits, has_minus}
use Rattle.subdiv_model.specs.ObjFault.{SharpnessRange}
use Rattle.subdiv_model.specs.ObjWord.{numeral_fault}
use Rattle.subdiv_model.specs.Sharpness.{Infinite, sharpness_of_fraction, sharpness_of}
use Rattle.subdiv_model.specs.ObjTag.{is_negative, is_below_ten, is_too_fine_numeral, tag_numeral_fault}
use Rattle.obj_laws.proofs.NumeralValueLemmas.{signed-amount}

-- a numeral in range is kept
pub kept-in-range : (word : List ℕ) → is_numeral word ≡ true → is_in_range word ≡ true → numeral_fault word ≡ None
kept-in-range word numeral range = rw (numeral, kept-range word numeral ∙ range) refl

-- The amount and the denominator of the numeral that was read.
amount-read : (word : List ℕ) (num : ℤ) (den : ℕ) → (num, den) ≡ numeral_form word → unsigned_abs num ≡ (numeral_amount word).0
amount-read word num den form = ap (λ (t : ℤ × ℕ). unsigned_abs t.0) form ∙ signed-amount (has_minus word) (numeral_amount word).0

den-read : (word : List ℕ) (num : ℤ) (den : ℕ) → (num, den) ≡ numeral_form word → den ≡ (numeral_amount word).1
den-read word num den form = ap (λ (t : ℤ × ℕ). t.1) form

sign-read : (word : List ℕ) (num : ℤ) (den : ℕ) → (num, den) ≡ numeral_form word
    → lt_z num (pos 0) ≡ lt_z (signed (has_minus word) (numeral_amount word).0) (pos 0)
sign-read word num den form = ap (λ (t : ℤ × ℕ). lt_z t.0 (pos 0)) form

negative-sign : (b : Bool) (a : ℕ) → lt_z (signed b a) (pos 0) ≡ b && nat_lt 0 a
negative-sign true zero = refl
negative-sign true (suc a) = grind (arith, nat_tests)
negative-sign false a = grind (arith, nat_tests)

negative-read : (word : List ℕ) (num : ℤ) (den : ℕ) → (num, den) ≡ numeral_form word → lt_z num (pos 0) ≡ is_negative word
negative-read word num den form = sign-read word num den form ∙ negative-sign (has_minus word) (numeral_amount word).0

or_true : (b : Bool) → b || true ≡ true
or_true true = refl
or_true false = refl

-- a sharpness below 0
pub sharp-negative : (word : List ℕ) (num : ℤ) (den : ℕ) → numeral_fault word ≡ None → (num, den) ≡ numeral_form word
    → lt_z num (pos 0) ≡ true → tag_numeral_fault word ≡ Some SharpnessRange
sharp-negative word num den kept form sign = rw (kept, sym (negative-read word num den form) ∙ sign) refl

infinite : (a d : ℕ) → 0 < d → 10 * d ≤ a → Infinite ≡ sharpness_of a d
infinite zero d positive h = absurd (omega arith)
infinite (suc a) d positive h = let yes : nat_le (10 * d) (suc a) ≡ true = grind (arith, nat_tests) in rw yes refl

not-below : (a d : ℕ) → 10 * d ≤ a → nat_lt a (10 * d) ≡ false
not-below a d h = grind (arith, nat_tests)

below : (a d : ℕ) → a < 10 * d → nat_lt a (10 * d) ≡ true
below a d h = grind (arith, nat_tests)

-- a sharpness of 10 or more
pub sharp-infinite : (word : List ℕ) (num : ℤ) (den : ℕ) → numeral_fault word ≡ None → (num, den) ≡ numeral_form word → 0 < den
    → lt_z num (pos 0) ≡ false → 10 * den ≤ unsigned_abs num
    → (tag_numeral_fault word ≡ None) × (Infinite ≡ sharpness_of_fraction (numeral_amount word))
sharp-infinite word num den kept form positive sign far =
    let amount = amount-read word num den form in
    let same = den-read word num den form in
    let wide : 10 * (numeral_amount word).1 ≤ (numeral_amount word).0 = omega (arith, far, amount, same) in
    let above : is_below_ten word ≡ false = not-below (numeral_amount word).0 (numeral_amount word).1 wide in
    let plus : is_negative word ≡ false = sym (negative-read word num den form) ∙ sign in (
      rw (kept, plus, above) refl,
      infinite (numeral_amount word).0 (numeral_amount word).1 (omega (arith, positive, same)) wide,
    )

lt-from : (a b : ℕ) → a < b → nat_lt a b ≡ true
lt-from a b h = grind (arith, nat_tests)

lt-not : (a b : ℕ) → b ≤ a → nat_lt a b ≡ false
lt-not a b h = grind (arith, nat_tests)

not-above : (a b : ℕ) → nat_lt a b ≡ false → b ≤ a
not-above a b e = grind (arith, nat_tests)

-- a denominator in lowest terms is at most the one before
lowest-less : (x : ℕ × ℕ) → (lowest x).1 ≤ x.1
lowest-less x = div-le_self x.1 (gcd_of x.0 x.1)

-- a numeral is too fine where it has more than six decimals, or where its denominator passes 10^6
fine-decimal : (fraction : Bool) (parts normal : ℕ × ℕ)
    → (if◌then◌else◌ {A = Bool} fraction (nat_lt (10 ^ 6) (lowest (if◌then◌else◌ {A = ℕ × ℕ} fraction parts (normal.0, 10 ^ normal.1))).1) (nat_lt 6 (if fraction then 0 else normal.1)))
    ≡ (nat_lt 6 (if fraction then 0 else normal.1) || nat_lt (10 ^ 6) (lowest (if◌then◌else◌ {A = ℕ × ℕ} fraction parts (normal.0, 10 ^ normal.1))).1)
fine-decimal true parts normal = refl
fine-decimal false parts normal = by (nat_lt 6 normal.1) refl
  where
    by : (b : Bool) → nat_lt 6 normal.1 ≡ b
        → nat_lt 6 normal.1 ≡ (nat_lt 6 normal.1 || nat_lt (10 ^ 6) (lowest (normal.0, 10 ^ normal.1)).1)
    by true e = rw e refl
    by false e =
        let few : normal.1 ≤ 6 = not-above 6 normal.1 e in
        let tens : 10 ^ normal.1 ≤ 10 ^ 6 = grows normal.1 6 few in
        let less : (lowest (normal.0, 10 ^ normal.1)).1 ≤ 10 ^ normal.1 = lowest-less (normal.0, 10 ^ normal.1) in
        rw e (sym (lt-not (10 ^ 6) (lowest (normal.0, 10 ^ normal.1)).1 (omega (arith, tens, less))))

too-fine : (word : List ℕ) → is_too_fine_numeral word ≡ (nat_lt 6 (decimals_of word) || nat_lt (10 ^ 6) (numeral_amount word).1)
too-fine word = fine-decimal (is_fraction word) (number_of_digits (numerator_digits word), number_of_digits (denominator_digits word)) (normal_amount word)

-- the test of the code
pub fine-either : (d n : ℕ) → (6 < d) ⊎ ((d ≤ 6) × (1000000 < n)) → nat_lt 6 d || nat_lt (10 ^ 6) n ≡ true
fine-either d n (inl many) = rw (lt-from 6 d many) refl
fine-either d n (inr far) = rw (lt-from 1000000 n far.1) (or_true (nat_lt 6 d))

pub fine-neither : (d n : ℕ) → d ≤ 6 → n ≤ 1000000 → nat_lt 6 d || nat_lt (10 ^ 6) n ≡ false
fine-neither d n few near = rw (lt-not 6 d few, lt-not 1000000 n near) refl

-- a sharpness below 10 that is too fine
pub sharp-fine : (word : List ℕ) (num : ℤ) (den decimals : ℕ) → numeral_fault word ≡ None → (num, den) ≡ numeral_form word
    → decimals ≡ decimals_of word → lt_z num (pos 0) ≡ false → unsigned_abs num < 10 * den
    → nat_lt 6 decimals || nat_lt (10 ^ 6) den ≡ true → tag_numeral_fault word ≡ Some SharpnessRange
sharp-fine word num den decimals kept form few sign near fine =
    let amount = amount-read word num den form in
    let same = den-read word num den form in
    let close : is_below_ten word ≡ true = below (numeral_amount word).0 (numeral_amount word).1 (omega (arith, near, amount, same)) in
    let plus : is_negative word ≡ false = sym (negative-read word num den form) ∙ sign in
    let test : is_too_fine_numeral word ≡ true =
    too-fine word ∙ ap (λ d. nat_lt 6 d || nat_lt (10 ^ 6) (numeral_amount word).1) (sym few) ∙ ap (λ d. nat_lt 6 decimals || nat_lt (10 ^ 6) d) (sym same) ∙ fine in
    rw (kept, plus, close, test) refl

-- a numeral that is kept as a sharpness
pub sharp-kept : (word : List ℕ) (num : ℤ) (den decimals : ℕ) → numeral_fault word ≡ None → (num, den) ≡ numeral_form word
    → decimals ≡ decimals_of word → lt_z num (pos 0) ≡ false
    → nat_lt 6 decimals || nat_lt (10 ^ 6) den ≡ false
    → (tag_numeral_fault word ≡ None) × (sharpness_of_fraction (unsigned_abs num, den) ≡ sharpness_of_fraction (numeral_amount word))
sharp-kept word num den decimals kept form few sign fine =
    let amount = amount-read word num den form in
    let same = den-read word num den form in
    let plus : is_negative word ≡ false = sym (negative-read word num den form) ∙ sign in
    let test : is_too_fine_numeral word ≡ false =
    too-fine word ∙ ap (λ d. nat_lt 6 d || nat_lt (10 ^ 6) (numeral_amount word).1) (sym few) ∙ ap (λ d. nat_lt 6 decimals || nat_lt (10 ^ 6) d) (sym same) ∙ fine in (
      rw (kept, plus, test) (none (is_below_ten word)),
      ap (λ a. sharpness_of_fraction (a, den)) amount ∙ ap (λ d. sharpness_of_fraction ((numeral_amount word).0, d)) same,
    )
  where
    none : (b : Bool) → (if b && false then Some SharpnessRange else None) ≡ None
    none true = refl
    none false = refl

-- a number times a factor that has at most 37 digits fits 128 bits
pub product-fits : (num : ℤ) (factor : ℕ) → unsigned_abs num * factor < 10 ^ 37 → FitsSigned w128 (num *ℤ pos factor)
product-fits num factor h = fits_signed_from_abs w128 _ (omega (arith, unsigned_abs-mul num (pos factor), h))

-- a number of up to eight digits with one more digit has up to nine, and fits 32 bits
pub digits-more : (i n d : ℕ) → i < 9 → n < 10 ^ i → d < 10 → (n * 10 < 2 ^ 32) × (n * 10 + d < 2 ^ 32) × (n * 10 + d < 10 ^ (i + 1))
digits-more i n d short below digit =
    let next : 10 ^ (i + 1) ≡ 10 ^ i * 10 = pow_more 10 i in
    let most : 10 ^ (i + 1) ≤ 10 ^ 9 = grows (i + 1) 9 (omega arith) in
    (omega arith, omega arith, omega arith)

-- more digits allow greater numbers
pub digits-within : (i n : ℕ) → i ≤ 9 → n < 10 ^ i → n < 10 ^ 9
digits-within i n h below = let grows : 10 ^ i ≤ 10 ^ 9 = grows i 9 h in omega arith
