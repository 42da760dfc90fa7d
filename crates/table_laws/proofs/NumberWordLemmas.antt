-- Number words: the text of a number is a number word, and each number word is the text of its number.
use Rattle.std.proofs.Common.{◌≡◌, ℕ, zero, suc, ◌+◌, ◌-◌, ◌*◌, ◌/◌, ◌%◌, ◌<◌, ◌≤◌, Bool, true, false, not, ◌||◌, nat_eq, nat_le, List, [], ◌∷◌, ◌++◌, length, arith, refl, ap, sym, ◌∙◌, append-nil, append_assoc, true≢false, eqb-true, leb-true}
use Rattle.std.specs.List.{fold, list_all}
use Rattle.std.proofs.lemmas.Bool.{and_parts, and_from, or_left}
use Rattle.std.proofs.lemmas.Bool.Decides.{nat_tests}
use Rattle.subdiv_model.specs.Digits.{is_digit, number_of_digits, is_number_word}
use Rattle.subdiv_model.specs.NumberText.{digits_within, number_text}
use Rattle.number_laws.proofs.DecimalLemmas.{number_text-step}
use Rattle.obj_laws.proofs.NumeralTextLemmas.{text-of}

-- the first of some bytes is not `0`
abbrev leads : List ℕ → Bool
leads [] = false
leads (b ∷ rest) = not (nat_eq b 48)

leads-on : (bytes more : List ℕ) → leads bytes ≡ true → leads (bytes ++ more) ≡ true
leads-on [] more h = absurd (true≢false (sym h))
leads-on (b ∷ bytes) more h = h

no-digits : (turns : ℕ) → digits_within turns 0 ≡ []
no-digits zero = refl
no-digits (suc turns) = refl

digit-leads : (d : ℕ) → 0 < d → not (nat_eq (d + 48) 48) ≡ true
digit-leads d some = grind (arith, nat_tests)

-- a number above 0 has no leading zero
leads-within : (turns n : ℕ) → 0 < n → n ≤ turns → leads (digits_within turns n) ≡ true
leads-within zero n some few = absurd (omega arith)
leads-within (suc turns) zero some few = absurd (omega arith)
leads-within (suc turns) (suc n) some few = here (suc n / 10) refl (λ above. leads-within turns (suc n / 10) above (omega arith))
  where
    here : (above : ℕ) → suc n / 10 ≡ above → (0 < suc n / 10 → leads (digits_within turns (suc n / 10)) ≡ true)
        → leads (digits_within turns (suc n / 10) ++ ((suc n % 10 + 48) ∷ [])) ≡ true
    here zero e more =
        ap (λ m. leads (digits_within turns m ++ ((suc n % 10 + 48) ∷ []))) e
        ∙ ap (λ digits. leads (digits ++ ((suc n % 10 + 48) ∷ []))) (no-digits turns)
        ∙ digit-leads (suc n % 10) (omega arith)
    here (suc above) e more = leads-on (digits_within turns (suc n / 10)) ((suc n % 10 + 48) ∷ []) (more (omega arith))

-- digits without a leading zero are a number word
leading-word : (bytes : List ℕ) → list_all is_digit bytes ≡ true → leads bytes ≡ true → is_number_word bytes ≡ true
leading-word [] digits leading = leading
leading-word (b ∷ rest) digits leading = and_from (list_all is_digit (b ∷ rest)) _ digits (or_left (not (nat_eq b 48)) (nat_eq (length rest) 0) leading)

pub number-word : (n : ℕ) → is_number_word (number_text n) ≡ true
number-word zero = refl
number-word (suc n) = leading-word (number_text (suc n)) (text-of (suc n)).digits (leads-within (suc n) (suc n) (omega arith) (omega arith))

pub number-says : (n : ℕ) → number_of_digits (number_text n) ≡ n
number-says n = (text-of n).says

-- digits after a number above 0 are the last ones of a number's text
more-digits : (a : ℕ) (digits : List ℕ) → 0 < a → list_all is_digit digits ≡ true
    → number_text (fold (λ n b. n * 10 + (b - 48)) a digits) ≡ number_text a ++ digits
more-digits a [] some are = sym (append-nil (number_text a))
more-digits a (b ∷ digits) some are =
    let parts = and_parts (is_digit b) (list_all is_digit digits) are in
    let range = and_parts (nat_le 48 b) (nat_le b 57) parts.0 in
    let low : 48 ≤ b = leb-true 48 b range.0 in
    let high : b ≤ 57 = leb-true b 57 range.1 in
    let next = a * 10 + (b - 48) in
    let above : next / 10 ≡ a = omega arith in
    let last : next % 10 + 48 ≡ b = omega arith in
    more-digits next digits (omega arith) parts.1
    ∙ ap (λ text. text ++ digits) (number_text-step next (omega arith) ∙ ap (λ m. number_text m ++ ((next % 10 + 48) ∷ [])) above ∙ ap (λ c. number_text a ++ (c ∷ [])) last)
    ∙ append_assoc (number_text a) (b ∷ []) digits

-- the text of one digit
digit-text : (d : ℕ) → 0 < d → d < 10 → number_text d ≡ (d + 48) ∷ []
digit-text zero some low = absurd (omega arith)
digit-text (suc d) some low =
    let none : suc d / 10 ≡ 0 = omega arith in
    let same : suc d % 10 ≡ suc d = omega arith in
    ap (λ m. digits_within d m ++ ((suc d % 10 + 48) ∷ [])) none
    ∙ ap (λ digits. digits ++ ((suc d % 10 + 48) ∷ [])) (no-digits d)
    ∙ ap (λ m. (m + 48) ∷ []) same

pub no-length : (bytes : List ℕ) → length bytes ≡ 0 → bytes ≡ []
no-length [] e = refl
no-length (b ∷ bytes) e = absurd (omega arith)

-- a word that is a number word is the text of its number
pub word-text : (word : List ℕ) → is_number_word word ≡ true → number_text (number_of_digits word) ≡ word
word-text [] is = absurd (true≢false (sym is))
word-text (b ∷ rest) is =
    let outer = and_parts (list_all is_digit (b ∷ rest)) (not (nat_eq b 48) || nat_eq (length rest) 0) is in
    let parts = and_parts (is_digit b) (list_all is_digit rest) outer.0 in
    let range = and_parts (nat_le 48 b) (nat_le b 57) parts.0 in
    here (nat_eq b 48) refl (leb-true 48 b range.0) (leb-true b 57 range.1) parts.1 outer.1
  where
    here : (t : Bool) → nat_eq b 48 ≡ t → 48 ≤ b → b ≤ 57 → list_all is_digit rest ≡ true → not (nat_eq b 48) || nat_eq (length rest) 0 ≡ true
        → number_text (number_of_digits (b ∷ rest)) ≡ b ∷ rest
    here true e low high digits only =
        let zero_byte : b ≡ 48 = eqb-true b 48 e in
        let no_rest : nat_eq (length rest) 0 ≡ true = ap (λ t. not t || nat_eq (length rest) 0) (sym e) ∙ only in
        let none : rest ≡ [] = no-length rest (eqb-true (length rest) 0 no_rest) in
        ap (λ c. number_text (number_of_digits (c ∷ rest))) zero_byte
        ∙ ap (λ more. number_text (number_of_digits (48 ∷ more))) none
        ∙ ap (λ c. c ∷ []) (sym zero_byte)
        ∙ ap (λ more. b ∷ more) (sym none)
    here false e low high digits only =
        let other : b ≡ 48 → ⊥ = λ same. true≢false (sym (ap (λ c. nat_eq c 48) same) ∙ e) in
        let digit : 0 * 10 + (b - 48) ≡ b - 48 = omega arith in
        let back : b - 48 + 48 ≡ b = omega arith in
        ap (λ a. number_text (fold (λ n c. n * 10 + (c - 48)) a rest)) digit
        ∙ more-digits (b - 48) rest (omega (arith, other)) digits
        ∙ ap (λ text. text ++ rest) (digit-text (b - 48) (omega (arith, other)) (omega arith))
        ∙ ap (λ c. c ∷ rest) back
