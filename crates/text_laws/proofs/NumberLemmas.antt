-- A whole number is read back from its text.
use Rattle.std.proofs.Common.{◌≡◌, ℕ, pos, ◌<◌, true, false, nat_eq, List, [], ◌∷◌, length, arith, refl, ap, ◌∙◌}
use Rattle.std.specs.List.{list_all}
use Rattle.std.proofs.lemmas.Bool.{and_parts, cond-false}
use Rattle.std.proofs.lemmas.Bool.Decides.{nat_tests}
use Rattle.subdiv_model.specs.Digits.{is_digit, number_of_digits, has_minus, without_minus}
use Rattle.subdiv_model.specs.Index.{is_index, index_of}
use Rattle.subdiv_model.specs.Numeral.{are_digits, signed}
use Rattle.subdiv_model.specs.NumberText.{number_text}
use Rattle.obj_laws.proofs.NumeralTextLemmas.{text-of, text-digits}

pub number-digits : (n : ℕ) → list_all is_digit (number_text n) ≡ true
number-digits n = (text-of n).digits

pub number-some : (n : ℕ) → 0 < length (number_text n)
number-some n = (text-of n).some

pub number-back : (n : ℕ) → number_of_digits (number_text n) ≡ n
number-back n = (text-of n).says

-- digits have no minus before them
pub no-minus : (bytes : List ℕ) → list_all is_digit bytes ≡ true → (has_minus bytes ≡ false) × (without_minus bytes ≡ bytes)
no-minus [] are = (refl, refl)
no-minus (b ∷ bytes) are = let none = other b (and_parts (is_digit b) (list_all is_digit bytes) are).0 in (none, cond-false _ _ _ none)
  where
    other : (b : ℕ) → is_digit b ≡ true → nat_eq b 45 ≡ false
    other b is = grind (arith, nat_tests)

pub number-index : (n : ℕ) → is_index (number_text n) ≡ true
number-index n = ap are_digits (no-minus (number_text n) (number-digits n)).1 ∙ text-digits n (number_text n) (text-of n)

pub index-back : (n : ℕ) → index_of (number_text n) ≡ pos n
index-back n =
    let none = no-minus (number_text n) (number-digits n) in
    ap (λ negative. signed negative (number_of_digits (without_minus (number_text n)))) none.0
    ∙ ap (λ digits. pos (number_of_digits digits)) none.1
    ∙ ap pos (number-back n)
