-- Digits, and the numbers they write.
-- Source: Drillolive.
use Rattle.std.specs.Prelude.{ℕ, ◌+◌, ◌-◌, ◌*◌, Bool, false, not, ◌&&◌, ◌||◌, nat_eq, nat_le, List, [], ◌∷◌, length, if◌then◌else◌}
use Rattle.std.specs.List.{list_all, fold}

-- the byte is a decimal digit
abbrev pub is_digit : ℕ → Bool
is_digit b = nat_le 48 b && nat_le b 57

-- the number that decimal digits write
abbrev pub number_of_digits : List ℕ → ℕ
number_of_digits digits = fold (λ n b. n * 10 + (b - 48)) 0 digits

-- the text is 1 to `most` digits
abbrev pub is_digits : ℕ → List ℕ → Bool
is_digits most word = nat_le 1 (length word) && nat_le (length word) most && list_all is_digit word

-- the text is decimal digits without a leading zero, except for `0` itself
abbrev pub is_number_word : List ℕ → Bool
is_number_word [] = false
is_number_word (b ∷ rest) = list_all is_digit (b ∷ rest) && (not (nat_eq b 48) || nat_eq (length rest) 0)

-- the text begins with `-`
abbrev pub has_minus : List ℕ → Bool
has_minus [] = false
has_minus (b ∷ rest) = nat_eq b 45

-- the text without a `-` at its beginning
abbrev pub without_minus : List ℕ → List ℕ
without_minus [] = []
without_minus (b ∷ rest) = if nat_eq b 45 then rest else b ∷ rest
