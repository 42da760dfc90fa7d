-- The text of a whole number is what std says of its digits, and what `{}` writes of it.
use Rattle.std.proofs.Common.{◌≡◌, ◌≢◌, ℕ, zero, suc, ◌+◌, ◌/◌, ◌%◌, ◌^◌, ◌<◌, ◌≤◌, [], ◌∷◌, ◌++◌, map, arith, lit≤, refl, ap, sym, ◌∙◌}
use Rattle.std.specs.Prelude.{decimal}
use Rattle.std.specs.Int.Digits.{digits_with_fuel, digits_of}
use Rattle.std.proofs.lemmas.Bool.{ne_eqb, cond-false}
use Rattle.std.proofs.lemmas.Fmt.{decimal_by_steps_wide}
use Rattle.std.proofs.lemmas.Int.Digits.{digits_of_step}
use Rattle.std.proofs.lemmas.List.{map-append}
use Rattle.subdiv_model.specs.NumberText.{digits_within, number_text}

abbrev byte_of : ℕ → ℕ
byte_of d = d + 48

digits-within : (turns n : ℕ) → digits_within turns n ≡ map byte_of (digits_with_fuel 10 turns n)
digits-within zero n = refl
digits-within (suc turns) zero = refl
digits-within (suc turns) (suc n) =
    ap (λ ds. ds ++ ((suc n % 10 + 48) ∷ [])) (digits-within turns (suc n / 10))
    ∙ sym (map-append byte_of (digits_with_fuel 10 turns (suc n / 10)) (suc n % 10 ∷ []))
    ∙ ap (map byte_of) (sym (cond-false _ [] _ (ne_eqb (suc n) 0 (λ none. omega arith))))

-- above 0 the bytes of the digits
pub number_text-digits : (n : ℕ) → n ≢ 0 → number_text n ≡ map (λ d. d + 48) (digits_of 10 n)
number_text-digits zero some = absurd (some refl)
number_text-digits (suc n) some = digits-within (suc n) (suc n)

-- from 10 on the last digit follows the text of the other digits
pub number_text-step : (n : ℕ) → 10 ≤ n → number_text n ≡ number_text (n / 10) ++ ((n % 10 + 48) ∷ [])
number_text-step n many =
    number_text-digits n (λ none. omega arith)
    ∙ ap (map byte_of) (digits_of_step 10 n (lit≤ tt) (omega arith))
    ∙ map-append byte_of (digits_of 10 (n / 10)) (n % 10 ∷ [])
    ∙ ap (λ ds. ds ++ ((n % 10 + 48) ∷ [])) (sym (number_text-digits (n / 10) (λ none. omega arith)))

number_text-digit : (n : ℕ) → n < 10 → (48 + n) ∷ [] ≡ number_text n
number_text-digit zero low = refl
number_text-digit (suc n) low =
    let none : suc n / 10 ≡ 0 = omega arith in
    let same : 48 + suc n ≡ suc n % 10 + 48 = omega arith in
    ap (λ b. b ∷ []) same ∙ sym (ap (λ m. digits_within n m ++ ((suc n % 10 + 48) ∷ [])) none ∙ ap (λ ds. ds ++ ((suc n % 10 + 48) ∷ [])) (no-digits n))
  where
    no-digits : (turns : ℕ) → digits_within turns 0 ≡ []
    no-digits zero = refl
    no-digits (suc turns) = refl

-- what `{}` writes of a number of at most 64 digits
pub decimal-number_text : (n : ℕ) → n < 10 ^ 64 → decimal n ≡ number_text n
decimal-number_text =
    decimal_by_steps_wide (λ n ds. ds ≡ number_text n) number_text-digit
    (λ n ds many h.
    let same : 48 + n % 10 ≡ n % 10 + 48 = omega arith in
    ap (λ xs. xs ++ ((48 + n % 10) ∷ [])) h ∙ ap (λ b. number_text (n / 10) ++ (b ∷ [])) same ∙ sym (number_text-step n many))
