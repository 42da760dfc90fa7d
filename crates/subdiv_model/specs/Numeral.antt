-- Numerals of OBJ text, decimals and fractions: their forms, values and terms.
-- Source: Drillolive.
use Rattle.std.specs.Prelude.{ℕ, zero, suc, ◌+◌, ◌*◌, ◌/◌, ◌%◌, ◌^◌, ℤ, pos, neg_ℤ, unsigned_abs, Bool, true, false, ◌&&◌, ◌||◌, nat_eq, nat_le, nat_lt, List, [], ◌∷◌, ◌++◌, length, drop, codes, if◌then◌else◌}
use Rattle.std.specs.List.{list_all, position_or_len, before_first, after_first}
use Rattle.subdiv_model.specs.Digits.{is_digit, number_of_digits, has_minus}
use Rattle.subdiv_model.specs.Fractions.{lowest}
use Rattle.subdiv_model.specs.NumberText.{sign_text, number_text}
use Rattle.subdiv_model.specs.Value.{Value}

-- the text is one or more digits
abbrev pub are_digits : List ℕ → Bool
are_digits bytes = nat_le 1 (length bytes) && list_all is_digit bytes

-- `+` or `-`
abbrev pub is_sign : ℕ → Bool
is_sign b = nat_eq b 43 || nat_eq b 45

-- the text without a sign at its beginning
abbrev pub without_sign : List ℕ → List ℕ
without_sign [] = []
without_sign (b ∷ rest) = if is_sign b then rest else b ∷ rest

-- the number of this amount, negative or not
abbrev pub signed : Bool → ℕ → ℤ
signed negative amount = if negative then neg_ℤ (pos amount) else pos amount

-- `e` or `E`
abbrev pub is_exponent_mark : ℕ → Bool
is_exponent_mark b = nat_eq b 101 || nat_eq b 69

-- the part after the sign and before the exponent
abbrev pub decimal_part : List ℕ → List ℕ
decimal_part word = before_first is_exponent_mark (without_sign word)

-- the part from the mark of the exponent, empty without a mark
abbrev pub exponent_part : List ℕ → List ℕ
exponent_part word = drop (position_or_len is_exponent_mark (without_sign word)) (without_sign word)

-- the byte is `.`
abbrev pub is_point : ℕ → Bool
is_point b = nat_eq b 46

-- the digits before the point
abbrev pub whole_digits : List ℕ → List ℕ
whole_digits word = before_first is_point (decimal_part word)

-- the digits after the point
abbrev pub fraction_digits : List ℕ → List ℕ
fraction_digits word = after_first is_point (decimal_part word)

-- the digits before and after the point
abbrev pub all_digits : List ℕ → List ℕ
all_digits word = whole_digits word ++ fraction_digits word

-- an exponent is empty, or its mark, an optional sign and one or more digits
abbrev pub is_exponent : List ℕ → Bool
is_exponent [] = true
is_exponent (mark ∷ exponent) = are_digits (without_sign exponent)

-- the amount of the exponent, 0 if there is none
abbrev pub exponent_amount : List ℕ → ℕ
exponent_amount [] = 0
exponent_amount (mark ∷ exponent) = number_of_digits (without_sign exponent)

-- the exponent is negative
abbrev pub exponent_has_minus : List ℕ → Bool
exponent_has_minus [] = false
exponent_has_minus (mark ∷ exponent) = has_minus exponent

-- a decimal is an optional sign, digits with an optional point before, after or among them, and an optional exponent
abbrev pub is_decimal : List ℕ → Bool
is_decimal word = are_digits (all_digits word) && is_exponent (exponent_part word)

-- the byte is `/`
abbrev pub is_slash : ℕ → Bool
is_slash b = nat_eq b 47

-- the digits of a fraction before the slash
abbrev pub numerator_digits : List ℕ → List ℕ
numerator_digits word = before_first is_slash (without_sign word)

-- the digits of a fraction after the slash
abbrev pub denominator_digits : List ℕ → List ℕ
denominator_digits word = after_first is_slash (without_sign word)

-- a fraction is an optional sign, digits, `/` and digits that are not all zero
abbrev pub is_fraction : List ℕ → Bool
is_fraction word =
    are_digits (numerator_digits word) && are_digits (denominator_digits word) && nat_lt 0 (number_of_digits (denominator_digits word))

-- the word is a decimal or a fraction
abbrev pub is_numeral : List ℕ → Bool
is_numeral word = is_decimal word || is_fraction word

-- the number of tens that multiply the digits
abbrev pub tens_above : List ℕ → ℕ
tens_above word = if exponent_has_minus (exponent_part word) then 0 else exponent_amount (exponent_part word)

-- the number of tens that divide the digits
abbrev pub tens_below : List ℕ → ℕ
tens_below word =
    if exponent_has_minus (exponent_part word) then length (fraction_digits word) + exponent_amount (exponent_part word) else length (fraction_digits word)

-- the value of a decimal: all digits as one whole number, times ten to the exponent less the number of digits after the point
abbrev pub decimal_value : List ℕ → Value
decimal_value word = record {
  num = signed (has_minus word) (number_of_digits (all_digits word) * 10 ^ tens_above word);
  den = 10 ^ tens_below word;
}

-- the value of a fraction, as written
abbrev pub fraction_value : List ℕ → Value
fraction_value word = record {
  num = signed (has_minus word) (number_of_digits (numerator_digits word));
  den = number_of_digits (denominator_digits word);
}

-- the value of a numeral
abbrev pub numeral_value : List ℕ → Value
numeral_value word = if is_fraction word then fraction_value word else decimal_value word

-- amount / 10^decimals after common tens are cancelled
abbrev pub cancelled : ℕ → ℕ → ℕ × ℕ
cancelled amount zero = (amount, 0)
cancelled amount (suc decimals) = if nat_eq (amount % 10) 0 then cancelled (amount / 10) decimals else (amount, suc decimals)

-- the amount and the decimals of the normal form of a decimal; zero is 0 / 1, whatever its exponent
abbrev pub normal_amount : List ℕ → ℕ × ℕ
normal_amount word =
    if nat_eq (number_of_digits (all_digits word)) 0 then (0, 0) else cancelled (number_of_digits (all_digits word) * 10 ^ tens_above word) (tens_below word)

-- the normal form (mantissa, decimals) of a decimal: the value is mantissa / 10^decimals, with the least number of decimals
abbrev pub normal_form : List ℕ → ℤ × ℕ
normal_form word = (signed (has_minus word) (normal_amount word).0, (normal_amount word).1)

-- the mantissa of the normal form has at most 37 digits, and it has at most 37 decimals
abbrev pub is_decimal_in_range : List ℕ → Bool
is_decimal_in_range word = nat_lt (normal_amount word).0 (10 ^ 37) && nat_le (normal_amount word).1 37

-- both parts of a fraction, as written, have at most 37 digits after their leading zeros
abbrev pub is_fraction_in_range : List ℕ → Bool
is_fraction_in_range word =
    nat_lt (number_of_digits (numerator_digits word)) (10 ^ 37) && nat_lt (number_of_digits (denominator_digits word)) (10 ^ 37)

-- the numeral is in the range of its kind
abbrev pub is_in_range : List ℕ → Bool
is_in_range word = if is_fraction word then is_fraction_in_range word else is_decimal_in_range word

-- the amount of a numeral as numerator and denominator: a fraction as written, a decimal in normal form
abbrev pub numeral_parts : List ℕ → ℕ × ℕ
numeral_parts word =
    if is_fraction word then (number_of_digits (numerator_digits word), number_of_digits (denominator_digits word))
    else ((normal_amount word).0, 10 ^ (normal_amount word).1)

-- the amount of a numeral in lowest terms
abbrev pub numeral_amount : List ℕ → ℕ × ℕ
numeral_amount word = lowest (numeral_parts word)

-- the lowest terms of a numeral, with its sign
abbrev pub numeral_form : List ℕ → ℤ × ℕ
numeral_form word = (signed (has_minus word) (numeral_amount word).0, (numeral_amount word).1)

-- the decimals of a decimal in normal form, and 0 for a fraction
abbrev pub decimals_of : List ℕ → ℕ
decimals_of word = if is_fraction word then 0 else (normal_amount word).1

-- the value of the lowest terms of a numeral
abbrev pub terms_value : ℤ × ℕ → Value
terms_value terms = record { num = terms.0; den = terms.1 }

-- the value of a normal form
abbrev pub form_value : ℤ × ℕ → Value
form_value form = record { num = form.0; den = 10 ^ form.1 }

-- a decimal that writes a normal form: a sign if it is negative, the digits of the mantissa, and the decimals as exponent
abbrev pub form_text : ℤ × ℕ → List ℕ
form_text form = sign_text form.0 ++ (number_text (unsigned_abs form.0) ++ (codes "e-" ++ number_text form.1))
