-- The terms of the amount of a numeral, as the reader finds them.
use Rattle.std.specs.Prelude.{ℕ, ◌≡◌, ◌≢◌, ◌⊎◌, ◌-◌, ◌*◌, ◌%◌, ◌^◌, ◌<◌, ◌≤◌, true, false, List, Result, MatchResult}
use Rattle.obj_text.specs.declared.numeral.NumeralFault.{NumeralFault}
use Rattle.obj_text.specs.declared.numeral.NumeralFault.TheVariants.{BadNumeral, NumberRange}
use Rattle.obj_text.specs.declared.terms.Terms.{Terms}
use Rattle.obj_text.specs.NumeralFaults.{IsFaultOf}
use Rattle.subdiv_model.specs.Digits.{number_of_digits}
use Rattle.subdiv_model.specs.Fractions.{lowest}
use Rattle.subdiv_model.specs.Numeral.{is_numeral, is_fraction, numerator_digits, denominator_digits, is_fraction_in_range, is_in_range, numeral_amount, decimals_of}

-- n without its factors p, of which at most `most` are removed; `left` of `most` were not removed.
pub record IsWithout (p n most rest left : ℕ) : Type 0 where
  pub value : n ≡ rest * p ^ (most - left)
  pub few : left ≤ most
  pub ends : (left ≡ 0) ⊎ (rest % p ≢ 0)

-- The numerator has at most 37 digits, the denominator is from 1 to 10^37, and there are at most 37 decimals.
abbrev pub AreSmall : Terms → Type 0
AreSmall terms = (terms.num < 10 ^ 37) × (0 < terms.den) × (terms.den ≤ 10 ^ 37) × (terms.decimals ≤ 37)

-- The lowest terms of num / den, kept with a count of decimals.
pub record AreLowestTerms (terms : Terms) (num den kept : ℕ) : Type 0 where
  pub pair : (terms.num, terms.den) ≡ lowest (num, den)
  pub decimals : terms.decimals ≡ kept
  pub small : AreSmall terms

-- `BadNumeral`: the word is not a fraction. `NumberRange`: it is one, but out of range.
abbrev pub IsFractionFault : NumeralFault → List ℕ → Type 0
IsFractionFault BadNumeral word = is_fraction word ≡ false
IsFractionFault NumberRange word = (is_fraction word ≡ true) × (is_fraction_in_range word ≡ false)

-- The lowest terms of a fraction, or the fault of the word.
abbrev pub IsFractionRead : Result Terms NumeralFault → List ℕ → Type 0
IsFractionRead read word =
    MatchResult read
    (λ terms. (is_fraction word ≡ true) × (is_fraction_in_range word ≡ true) × AreLowestTerms terms (number_of_digits (numerator_digits word)) (number_of_digits (denominator_digits word)) 0)
    (λ fault. IsFractionFault fault word)

-- The terms of a numeral, or the fault of the word.
abbrev pub IsTermsRead : Result Terms NumeralFault → List ℕ → Type 0
IsTermsRead read word =
    MatchResult read
    (λ terms. (is_numeral word ≡ true) × (is_in_range word ≡ true) × ((terms.num, terms.den) ≡ numeral_amount word) × (terms.decimals ≡ decimals_of word) × AreSmall terms)
    (λ fault. IsFaultOf fault word)
