-- The terms of a numeral: they have its value, and one value has one pair of terms.
use Rattle.std.proofs.Common.{◌≡◌, ℕ, zero, suc, ◌*◌, ◌/◌, ◌^◌, ◌<◌, ℤ, pos, negsuc, ◌*ℤ◌, unsigned_abs, Bool, true, false, List, arith, refl, ap, sym, subst, ◌∙◌, ⊎_elim, true≢false}
use Rattle.std.proofs.lemmas.Bool.{cases_Bool, and_parts, ltb-true}
use Rattle.std.proofs.Math.Nat.{div-mul_cancel}
use Rattle.subdiv_model.specs.Digits.{number_of_digits, has_minus}
use Rattle.subdiv_model.specs.Fractions.{gcd_of, lowest}
use Rattle.subdiv_model.specs.Numeral.{signed, all_digits, tens_above, tens_below, is_fraction, numerator_digits, denominator_digits, normal_amount, numeral_value, numeral_amount, numeral_form, terms_value}
use Rattle.subdiv_model.specs.Value.{Value, IsSameValue}
use Rattle.number_laws.proofs.DivisorLemmas.{factor-positive, lowest-fraction, lowest-same}
use Rattle.number_laws.proofs.FractionLemmas.{gcd_of-is}
use Rattle.obj_laws.proofs.NumeralValueLemmas.{tens, word-reduced, signed-times, signed-amount, same-turned, same-through}

-- a word's value, as it is written, and its amount in lowest terms
record HasValue (word : List ℕ) : Type 0 where
  amount : ℕ
  over : ℕ
  positive : 0 < over
  value : numeral_value word ≡ record { num = signed (has_minus word) amount; den = over }
  terms : numeral_amount word ≡ lowest (amount, over)

-- a fraction's denominator is above 0
pub denominator-positive : (word : List ℕ) → is_fraction word ≡ true → 0 < number_of_digits (denominator_digits word)
denominator-positive word is = ltb-true 0 _ (and_parts _ _ is).1

word-value : (word : List ℕ) → HasValue word
word-value word =
    ⊎_elim
    (λ (fraction : is_fraction word ≡ true). record {
      amount = number_of_digits (numerator_digits word);
      over = number_of_digits (denominator_digits word);
      positive = denominator-positive word fraction;
      value = rw fraction refl;
      terms = rw fraction refl;
    })
    (λ (other : is_fraction word ≡ false).
    let n = number_of_digits (all_digits word) * 10 ^ tens_above word in
    let form = normal_amount word in
    record {
      amount = n;
      over = 10 ^ tens_below word;
      positive = tens (tens_below word);
      value = rw other refl;
      terms = rw other (lowest-same form.0 (10 ^ form.1) n (10 ^ tens_below word) (tens form.1) (tens (tens_below word)) (word-reduced word).value);
    })
    (cases_Bool (is_fraction word))

-- the denominator in lowest terms is above 0
pub lowest-den-positive : (a b : ℕ) → 0 < b → 0 < (lowest (a, b)).1
lowest-den-positive a b positive = factor-positive (b / gcd_of a b) (gcd_of a b) b (div-mul_cancel (gcd_of a b) (gcd_of-is a b).1) positive

pub terms-positive : (word : List ℕ) → 0 < (numeral_form word).1
terms-positive word =
    let has = word-value word in
    let P : ℕ × ℕ → Type 0 = λ terms. 0 < terms.1 in
    subst P (sym has.terms) (lowest-den-positive has.amount has.over has.positive)

-- the terms have the value
pub terms-value : (word : List ℕ) → IsSameValue (terms_value (numeral_form word)) (numeral_value word)
terms-value word =
    let has = word-value word in
    let negative = has_minus word in
    let low = lowest (has.amount, has.over) in
    let low-value : IsSameValue (record { num = signed negative low.0; den = low.1 }) (record { num = signed negative has.amount; den = has.over }) =
    signed-times negative low.0 has.over
    ∙ ap (signed negative) (sym (lowest-fraction has.amount has.over has.positive))
    ∙ sym (signed-times negative has.amount low.1) in
    let P : ℕ × ℕ → Type 0 = λ terms. IsSameValue (record { num = signed negative terms.0; den = terms.1 }) (numeral_value word) in
    let Q : Value → Type 0 = λ value. IsSameValue (record { num = signed negative low.0; den = low.1 }) value in
    subst P (sym has.terms) (subst Q (sym has.value) low-value)

pub one-form-same-value : (v w : List ℕ) → numeral_form v ≡ numeral_form w → IsSameValue (numeral_value v) (numeral_value w)
one-form-same-value v w e =
    let P : ℤ × ℕ → Type 0 = λ form. IsSameValue (terms_value form) (numeral_value w) in
    same-through (numeral_value v) (terms_value (numeral_form v)) (numeral_value w) (terms-positive v)
    (same-turned (terms_value (numeral_form v)) (numeral_value v) (terms-value v)) (subst P (sym e) (terms-value w))

abbrev is_below : ℤ → Bool
is_below (pos n) = false
is_below (negsuc n) = true

-- two signs that agree for one amount agree for another, unless the first amount is 0
sign-agrees : (s t : Bool) (n a : ℕ) → signed s n ≡ signed t n → (n ≡ 0 → a ≡ 0) → signed s a ≡ signed t a
sign-agrees true true n a e none = refl
sign-agrees false false n a e none = refl
sign-agrees true false zero a e none = rw none refl
sign-agrees true false (suc n) a e none = absurd (true≢false (ap is_below e))
sign-agrees false true zero a e none = rw none refl
sign-agrees false true (suc n) a e none = absurd (true≢false (sym (ap is_below e)))

times-none : (d n : ℕ) → 0 < d → n * d ≡ 0 → n ≡ 0
times-none d zero positive e = refl
times-none d (suc n) positive e = absurd (omega arith)

lowest-none : (a b : ℕ) → 0 < b → a ≡ 0 → (lowest (a, b)).0 ≡ 0
lowest-none a b positive none =
    times-none b (lowest (a, b)).0 positive (sym (lowest-fraction a b positive) ∙ ap (λ n. n * (lowest (a, b)).1) none ∙ omega arith)

-- amounts that are signed alike over one another's denominators have one pair of terms
same-terms : (s t : Bool) (a b c d : ℕ) → 0 < b → 0 < d → signed s a *ℤ pos d ≡ signed t c *ℤ pos b
    → ◌≡◌ {A = ℤ × ℕ} (signed s (lowest (a, b)).0, (lowest (a, b)).1) (signed t (lowest (c, d)).0, (lowest (c, d)).1)
same-terms s t a b c d above below e =
    let crossed : signed s (a * d) ≡ signed t (c * b) = sym (signed-times s a d) ∙ e ∙ signed-times t c b in
    let amounts : a * d ≡ c * b = sym (signed-amount s (a * d)) ∙ ap unsigned_abs crossed ∙ signed-amount t (c * b) in
    let alike : signed s (a * d) ≡ signed t (a * d) = crossed ∙ ap (signed t) (sym amounts) in
    let sign : signed s (lowest (a, b)).0 ≡ signed t (lowest (a, b)).0 =
    sign-agrees s t (a * d) (lowest (a, b)).0 alike (λ none. lowest-none a b above (times-none d a below none)) in
    ap (λ z. (z, (lowest (a, b)).1)) sign ∙ ap (λ (terms : ℕ × ℕ). (signed t terms.0, terms.1)) (lowest-same a b c d above below amounts)

pub same-value-one-form : (v w : List ℕ) → IsSameValue (numeral_value v) (numeral_value w) → numeral_form v ≡ numeral_form w
same-value-one-form v w same =
    let first = word-value v in
    let second = word-value w in
    let left : IsSameValue (record { num = signed (has_minus v) first.amount; den = first.over }) (numeral_value w) =
    let P : Value → Type 0 = λ value. IsSameValue value (numeral_value w) in subst P first.value same in
    let both : signed (has_minus v) first.amount *ℤ pos second.over ≡ signed (has_minus w) second.amount *ℤ pos first.over =
    let P : Value → Type 0 = λ value. IsSameValue (record { num = signed (has_minus v) first.amount; den = first.over }) value in subst P second.value left in
    ap (λ (terms : ℕ × ℕ). (signed (has_minus v) terms.0, terms.1)) first.terms
    ∙ same-terms (has_minus v) (has_minus w) first.amount first.over second.amount second.over first.positive second.positive both
    ∙ sym (ap (λ (terms : ℕ × ℕ). (signed (has_minus w) terms.0, terms.1)) second.terms)
