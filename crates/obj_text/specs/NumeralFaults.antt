-- The fault of a word that is not read as a numeral.
use Rattle.std.specs.Prelude.{ℕ, ◌≡◌, true, false, List, Result, MatchResult, codes}
use Rattle.obj_text.specs.declared.numeral.Numeral.{Numeral}
use Rattle.obj_text.specs.declared.numeral.NumeralFault.{NumeralFault}
use Rattle.obj_text.specs.declared.numeral.NumeralFault.TheVariants.{BadNumeral, NumberRange}
use Rattle.subdiv_model.specs.Numeral.{is_numeral, is_in_range, numeral_form, decimals_of}

-- `BadNumeral`: the word is not a numeral. `NumberRange`: it is one, but out of range.
abbrev pub IsFaultOf : NumeralFault → List ℕ → Type 0
IsFaultOf BadNumeral word = is_numeral word ≡ false
IsFaultOf NumberRange word = (is_numeral word ≡ true) × (is_in_range word ≡ false)

-- The numeral of a word in lowest terms, or the fault of the word.
abbrev pub IsReadAs : Result Numeral NumeralFault → List ℕ → Type 0
IsReadAs read word =
    MatchResult read
    (λ n. (is_numeral word ≡ true) × (is_in_range word ≡ true) × ((n.num, n.den) ≡ numeral_form word) × (n.decimals ≡ decimals_of word))
    (λ fault. IsFaultOf fault word)

-- The text of each fault.
abbrev pub text_of_fault : NumeralFault → List ℕ
text_of_fault BadNumeral = codes "bad numeral"
text_of_fault NumberRange = codes "number out of range"
