-- Indices of OBJ text.
-- Source: Drillolive.
use Rattle.std.specs.Prelude.{ℕ, ℤ, Bool, List}
use Rattle.std.specs.Int.{saturate_to_bits}
use Rattle.subdiv_model.specs.Numeral.{are_digits, signed}
use Rattle.subdiv_model.specs.Digits.{number_of_digits, has_minus, without_minus}

-- the word is an optional `-` and one or more digits
abbrev pub is_index : List ℕ → Bool
is_index word = are_digits (without_minus word)

-- the number of an index, with its sign
abbrev pub index_of : List ℕ → ℤ
index_of word = signed (has_minus word) (number_of_digits (without_minus word))

-- the signed number of 64 bits that is nearest to the index
abbrev pub nearest_index : List ℕ → ℤ
nearest_index word = saturate_to_bits 63 (index_of word)
