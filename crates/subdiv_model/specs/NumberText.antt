-- Texts of numbers: whole numbers, fractions in lowest terms, and decimals.
-- Source: Drillolive.
use Rattle.std.specs.Prelude.{ℕ, zero, suc, ◌+◌, ◌*◌, ◌/◌, ◌%◌, ◌^◌, ℤ, pos, negsuc, unsigned_abs, Bool, ◌&&◌, ◌||◌, nat_eq, nat_lt, List, [], ◌∷◌, ◌++◌, codes, Option, Some, None, if◌then◌else◌}
use Rattle.subdiv_model.specs.Fractions.{lowest}
use Rattle.subdiv_model.specs.Value.{Value}

-- the decimal digits of a number, the highest first, and none for 0; as many steps as the number are enough
abbrev pub digits_within : ℕ → ℕ → List ℕ
digits_within zero n = []
digits_within (suc turns) zero = []
digits_within (suc turns) (suc n) = digits_within turns (suc n / 10) ++ ((suc n % 10 + 48) ∷ [])

-- a whole number in decimal digits, at least one
abbrev pub number_text : ℕ → List ℕ
number_text zero = codes "0"
number_text (suc n) = digits_within (suc n) (suc n)

-- `-` for a number below 0
abbrev pub sign_text : ℤ → List ℕ
sign_text (pos n) = []
sign_text (negsuc n) = codes "-"

-- `n/d`, or `n` where d is 1
abbrev pub ratio_text : ℕ × ℕ → List ℕ
ratio_text x = if nat_eq x.1 1 then number_text x.0 else number_text x.0 ++ (codes "/" ++ number_text x.1)

-- a fraction in lowest terms, whatever terms it is given in
abbrev pub fraction_text : ℤ → ℕ → List ℕ
fraction_text num den = sign_text num ++ ratio_text (lowest (unsigned_abs num, den))

-- the quotient with this remainder rounds up: the remainder is more than half, or half and the quotient odd
abbrev pub goes_up : ℕ → ℕ → ℕ → Bool
goes_up quotient remainder den = nat_lt den (2 * remainder) || (nat_eq den (2 * remainder) && nat_eq (quotient % 2) 1)

-- the whole number nearest to num / den, and the even one of two
abbrev pub half_to_even : ℕ → ℕ → ℕ
half_to_even num den = if goes_up (num / den) (num % den) den then num / den + 1 else num / den

-- the last digits of a number, a given number of them
abbrev pub last_digits : ℕ → ℕ → List ℕ
last_digits zero n = []
last_digits (suc digits) n = last_digits digits (n / 10) ++ ((n % 10 + 48) ∷ [])

-- a number with a given number of decimals, in units of the last; without decimals it has no point
abbrev pub decimal_text : ℕ → ℕ → List ℕ
decimal_text zero n = number_text n
decimal_text (suc d) n = number_text (n / 10 ^ suc d) ++ (codes "." ++ last_digits (suc d) n)

-- the sign of a rounded value; a value rounded to 0 has none
abbrev pub rounded_sign : ℤ → ℕ → List ℕ
rounded_sign num zero = []
rounded_sign num (suc n) = sign_text num

-- a fraction rounded to a number of decimals, half to even
abbrev pub rounded_text : ℕ → ℤ → ℕ → List ℕ
rounded_text digits num den =
    let n = half_to_even (unsigned_abs num * 10 ^ digits) den in rounded_sign num n ++ decimal_text digits n

-- a value in lowest terms
abbrev pub value_text : Value → List ℕ
value_text value = fraction_text value.num value.den

-- a value rounded to the given decimals, or in lowest terms if there are none
abbrev pub value_text_with : Option ℕ → Value → List ℕ
value_text_with None value = value_text value
value_text_with (Some digits) value = rounded_text digits value.num value.den
