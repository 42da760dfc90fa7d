-- The condition on a table whose words are read: numbers and places fit 32 bits.
use Rattle.std.specs.Prelude.{◌≡◌, ℕ, Bool, false, not, ◌||◌, ◌&&◌, nat_le, nat_lt, List, [], ◌∷◌, length, Option, Some, None, bytes_eq, codes, if◌then◌else◌}
use Rattle.std.specs.Option.{option_and_then}
use Rattle.std.specs.List.{list_all, list_any}
use Rattle.subdiv_model.specs.Digits.{is_digit, number_of_digits, is_number_word}
use Rattle.far_model.specs.Words.{ValueKind, Number, OneOf, OptionRule, CommandRule, value_of, number_of}

-- Whether a number fits 32 bits.
abbrev pub fits_u32 : ℕ → Bool
fits_u32 n = nat_le n 4294967295

-- The number that digits spell, if it fits 32 bits.
abbrev pub u32_of_digits : List ℕ → Option ℕ
u32_of_digits digits = if list_all is_digit digits && fits_u32 (number_of_digits digits) then Some (number_of_digits digits) else None

-- The number that a word spells, if the word is a number and fits 32 bits.
abbrev pub u32_of_word : List ℕ → Option ℕ
u32_of_word word = if is_number_word word && fits_u32 (number_of_digits word) then Some (number_of_digits word) else None

-- The number of the option with this name.
abbrev pub u32_of_option : List (List ℕ) → List ℕ → Option ℕ
u32_of_option options name = option_and_then u32_of_word (value_of options name)

-- The numbers of a command fit 32 bits.
pub record AreNumbersU32 (options : List (List ℕ)) : Type 0 where
  pub depth : u32_of_option options (codes "depth") ≡ number_of options (codes "depth")
  pub decimals : u32_of_option options (codes "decimals") ≡ number_of options (codes "decimals")
  pub seed : u32_of_option options (codes "seed") ≡ number_of options (codes "seed")
  pub size : u32_of_option options (codes "size") ≡ number_of options (codes "size")
  pub scale : u32_of_option options (codes "scale") ≡ number_of options (codes "scale")
  pub face : u32_of_option options (codes "face") ≡ number_of options (codes "face")
  pub grid : u32_of_option options (codes "grid") ≡ number_of options (codes "grid")
  pub corner : u32_of_option options (codes "corner") ≡ number_of options (codes "corner")

-- The options whose values become numbers of a command.
abbrev pub number_names : List (List ℕ)
number_names = codes "depth" ∷ codes "decimals" ∷ codes "seed" ∷ codes "size" ∷ codes "scale" ∷ codes "face" ∷ codes "grid" ∷ codes "corner" ∷ []

-- Whether every value of the kind is a number that fits 32 bits.
abbrev pub is_u32_kind : ValueKind → Bool
is_u32_kind (Number least greatest) = fits_u32 greatest
is_u32_kind (OneOf names) = false

-- The option has another name, or its values are numbers that fit 32 bits.
abbrev pub is_u32_option : OptionRule → Bool
is_u32_option rule = not (list_any (bytes_eq rule.name) number_names) || is_u32_kind rule.kind

-- The numbers of a command fit 32 bits, and so does the place of a bad word.
abbrev pub is_u32_rule : CommandRule → Bool
is_u32_rule rule = list_all is_u32_option rule.options && nat_lt (length rule.options) 4294967295

-- The numbers of every command of the table fit 32 bits, and so does the place of a bad word.
abbrev pub is_u32_table : List CommandRule → Bool
is_u32_table table = list_all is_u32_rule table
