-- Words whose form shows a number that their denominator divides.
use Rattle.std.specs.Prelude.{ℕ, ◌≡◌, ◌*◌, ◌^◌, true, List, length}
use Rattle.std.specs.Int.{◌∣◌}
use Rattle.std.specs.List.{list_all}
use Rattle.subdiv_model.specs.Digits.{is_digit, number_of_digits}
use Rattle.subdiv_model.specs.ReadObj.{denominator_of}

-- The digits, over their power of ten, are whole over a number.
abbrev pub IsWholeOver : List ℕ → ℕ → Type 0
IsWholeOver digits common = 10 ^ length digits ∣ common * number_of_digits digits

-- The digits are decimal digits, and if they are whole over a number, the denominator of the word divides it.
abbrev pub HasDecimals : List ℕ → List ℕ → Type 0
HasDecimals word digits = (list_all is_digit digits ≡ true) × ((common : ℕ) → IsWholeOver digits common → denominator_of word ∣ common)
