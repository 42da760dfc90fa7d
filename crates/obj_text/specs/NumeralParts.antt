-- The parts of a decimal, as the reader keeps them.
use Rattle.std.specs.Prelude.{ℕ, ◌≡◌, ◌⊎◌, ◌-◌, ◌*◌, ◌^◌, ◌<◌, ◌≤◌, true, false, min, List, Option, MatchOption}
use Rattle.obj_text.specs.declared.numeral.Exponent.{Exponent}
use Rattle.obj_text.specs.declared.numeral.Parts.{Parts}
use Rattle.subdiv_model.specs.Digits.{number_of_digits}
use Rattle.subdiv_model.specs.Numeral.{are_digits, whole_digits, fraction_digits, is_exponent, exponent_part, exponent_amount, exponent_has_minus, normal_amount, is_decimal_in_range}

-- The number that one or more digits spell, or `most` if the number is greater.
abbrev pub IsNumberUpTo : ℕ → Option ℕ → List ℕ → Type 0
IsNumberUpTo most read bytes =
    MatchOption read (are_digits bytes ≡ false) (λ n. (are_digits bytes ≡ true) × (n ≡ min (number_of_digits bytes) most))

-- The exponent that begins with this mark, with an amount of at most `most`, or no exponent.
abbrev pub IsExponentUpTo : ℕ → Option Exponent → List ℕ → Type 0
IsExponentUpTo most read part =
    MatchOption read (is_exponent part ≡ false)
    (λ e. (is_exponent part ≡ true) × (e.negative ≡ exponent_has_minus part) × (e.amount ≡ min (exponent_amount part) most))

-- The parts of a word, with an exponent amount of at most 10^20.
pub record ArePartsOf (parts : Parts) (word : List ℕ) : Type 0 where
  pub whole : parts.whole.now ≡ whole_digits word
  pub fraction : parts.fraction.now ≡ fraction_digits word
  pub exponent_sign : parts.exponent.negative ≡ exponent_has_minus (exponent_part word)
  pub exponent : parts.exponent.amount ≡ min (exponent_amount (exponent_part word)) (10 ^ 20)

-- The amount and the decimals of amount * 10^above / 10^below, if they are in range.
abbrev pub IsOverTens : Option (ℕ × ℕ) → ℕ → ℕ → ℕ → Type 0
IsOverTens read amount above below =
    MatchOption read ((10 ^ 37 ≤ amount * 10 ^ (above - below)) ⊎ (37 < below - above))
    (λ n. (n.0 ≡ amount * 10 ^ (above - below)) × (n.1 ≡ below - above) × (n.0 < 10 ^ 37) × (n.1 ≤ 37))

-- The amount and the decimals of the normal form, if they are in range.
abbrev pub IsNormalAmount : Option (ℕ × ℕ) → List ℕ → Type 0
IsNormalAmount read word =
    MatchOption read (is_decimal_in_range word ≡ false)
    (λ n. (is_decimal_in_range word ≡ true) × ((n.0, n.1) ≡ normal_amount word) × (n.0 < 10 ^ 37) × (n.1 ≤ 37))
