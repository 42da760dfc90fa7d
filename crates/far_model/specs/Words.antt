-- The words of a command line: a command, then options `name=value`, all in one table.
-- Source: Drillolive.
use Rattle.std.specs.Prelude.{ℕ, ◌+◌, Bool, true, false, not, ◌&&◌, ◌||◌, nat_eq, nat_le, List, [], ◌∷◌, length, take, get_or, Option, Some, None, option_map, unwrap_or, bytes_eq, codes, if◌then◌else◌}
use Rattle.std.specs.List.{list_all, list_any, find, before_first, after_first, range_with_len}
use Rattle.subdiv_model.specs.Digits.{is_number_word, number_of_digits}

-- the values that an option allows
pub data ValueKind : Type 0 where
  -- a number between two bounds, both allowed
  Number : ℕ → ℕ → ValueKind
  -- one of the names
  OneOf : List (List ℕ) → ValueKind

-- an option of a command
pub record OptionRule : Type 0 where
  pub name : List ℕ
  pub kind : ValueKind
  pub required : Bool

-- a command with its options
pub record CommandRule : Type 0 where
  pub name : List ℕ
  pub options : List OptionRule

-- a required option whose value is a number between two bounds
abbrev pub required_option : List ℕ → ℕ → ℕ → OptionRule
required_option name least greatest = record { name = name; kind = Number least greatest; required = true }

-- an option whose value is a number between two bounds
abbrev pub number_option : List ℕ → ℕ → ℕ → OptionRule
number_option name least greatest = record { name = name; kind = Number least greatest; required = false }

-- an option whose value is one of some names
abbrev pub name_option : List ℕ → List (List ℕ) → OptionRule
name_option name names = record { name = name; kind = OneOf names; required = false }

-- the names for the refinement of texture; the first is the default
abbrev pub texture_names : List (List ℕ)
texture_names = codes "smooth" ∷ codes "corners" ∷ codes "boundaries" ∷ codes "linear" ∷ []

-- the names for the path of `refine`; the first is the default
abbrev pub path_names : List (List ℕ)
path_names = codes "table" ∷ codes "level" ∷ []

-- the names for tags; the first is the default
abbrev pub tags_names : List (List ℕ)
tags_names = codes "no" ∷ codes "yes" ∷ []

-- the names for the selected faces; the first is the default
abbrev pub select_names : List (List ℕ)
select_names = codes "feature" ∷ codes "all" ∷ []

-- the names for the texture of sparse levels; the first is the default
abbrev pub sparse_texture_names : List (List ℕ)
sparse_texture_names = codes "none" ∷ texture_names

-- the commands and their options
abbrev pub command_table : List CommandRule
command_table =
    record { name = codes "refine"; options = required_option (codes "depth") 0 10 ∷ number_option (codes "decimals") 0 18 ∷ name_option (codes "uv") texture_names ∷ name_option (codes "by") path_names ∷ name_option (codes "tags") tags_names ∷ [] }
    ∷ record { name = codes "sparse"; options = required_option (codes "depth") 0 10 ∷ name_option (codes "select") select_names ∷ number_option (codes "decimals") 0 18 ∷ name_option (codes "uv") sparse_texture_names ∷ [] }
    ∷ record { name = codes "stencils"; options = required_option (codes "depth") 0 10 ∷ [] }
    ∷ record { name = codes "limit"; options = required_option (codes "depth") 1 10 ∷ number_option (codes "decimals") 0 18 ∷ [] }
    ∷ record { name = codes "frames"; options = required_option (codes "depth") 0 10 ∷ number_option (codes "scale") 0 18 ∷ [] }
    ∷ record { name = codes "levels"; options = required_option (codes "depth") 0 10 ∷ [] }
    ∷ record { name = codes "patch"; options = required_option (codes "depth") 0 10 ∷ required_option (codes "face") 0 4194303 ∷ required_option (codes "grid") 1 64 ∷ [] }
    ∷ record { name = codes "map"; options = required_option (codes "depth") 0 10 ∷ required_option (codes "face") 0 1048575 ∷ required_option (codes "grid") 1 256 ∷ number_option (codes "corner") 0 65535 ∷ name_option (codes "select") select_names ∷ [] }
    ∷ record { name = codes "verify"; options = required_option (codes "depth") 0 10 ∷ [] }
    ∷ record { name = codes "apply"; options = [] }
    ∷ record { name = codes "gen"; options = required_option (codes "seed") 0 4294967295 ∷ required_option (codes "size") 1 256 ∷ required_option (codes "depth") 0 10 ∷ [] }
    ∷ []

-- the option allows this value
abbrev pub is_value : ValueKind → List ℕ → Bool
is_value (Number least greatest) value =
    is_number_word value && nat_le least (number_of_digits value) && nat_le (number_of_digits value) greatest
is_value (OneOf names) value = list_any (bytes_eq value) names

-- the byte `=`
abbrev pub is_equals : ℕ → Bool
is_equals b = nat_eq b 61

-- the part of an option before its first `=`
abbrev pub option_name : List ℕ → List ℕ
option_name word = before_first is_equals word

-- the part of an option after its first `=`
abbrev pub option_value : List ℕ → List ℕ
option_value word = after_first is_equals word

-- the command of this name
abbrev pub rule_named : List CommandRule → List ℕ → Option CommandRule
rule_named table name = find (λ rule. bytes_eq name rule.name) table

-- the word is `name=value`, where one of the options has this name and allows this value
abbrev pub is_option_of : List OptionRule → List ℕ → Bool
is_option_of rules word =
    list_any is_equals word && list_any (λ rule. bytes_eq (option_name word) rule.name && is_value rule.kind (option_value word)) rules

-- one of the words has this name
abbrev pub has_option : List (List ℕ) → List ℕ → Bool
has_option options name = list_any (λ option. bytes_eq name (option_name option)) options

-- the option at place i, from 0 after the command, is unknown or repeats the name of an earlier one
abbrev pub is_bad_option : List OptionRule → List (List ℕ) → ℕ → Bool
is_bad_option rules options i =
    let option = get_or options i [] in
    not (is_option_of rules option) || has_option (take i options) (option_name option)

-- the place, from 0 after the command, of the first bad option
abbrev pub first_bad_option : List OptionRule → List (List ℕ) → Option ℕ
first_bad_option rules options = find (is_bad_option rules options) (range_with_len 0 (length options))

-- the options include each required one
abbrev pub has_required : List OptionRule → List (List ℕ) → Bool
has_required rules options = list_all (λ rule. not rule.required || has_option options rule.name) rules

-- the place of an option among the words, from its place after the command; the number of words if a required option is missing
abbrev pub usage_of_options : List OptionRule → List (List ℕ) → Option ℕ → Option ℕ
usage_of_options rules options (Some i) = Some (i + 1)
usage_of_options rules options None = if has_required rules options then None else Some (length options + 1)

-- the place of the first bad word; 0 if there is no rule for the command
abbrev pub usage_of_rule : Option CommandRule → List (List ℕ) → Option ℕ
usage_of_rule None options = Some 0
usage_of_rule (Some rule) options = usage_of_options rule.options options (first_bad_option rule.options options)

-- The place, from 0, of the first word that makes the words no command of the table. It is the number of words if a required
-- option is missing, and none if the words are a command.
abbrev pub usage_of : List CommandRule → List (List ℕ) → Option ℕ
usage_of table [] = Some 0
usage_of table (command ∷ options) = usage_of_rule (rule_named table command) options

-- the value of the option with this name
abbrev pub value_of : List (List ℕ) → List ℕ → Option (List ℕ)
value_of options name = option_map option_value (find (λ option. bytes_eq name (option_name option)) options)

-- the number of an option, if it is there
abbrev pub number_of : List (List ℕ) → List ℕ → Option ℕ
number_of options name = option_map number_of_digits (value_of options name)

-- the number of an option, or 0 if the option is missing
abbrev pub required_number : List (List ℕ) → List ℕ → ℕ
required_number options name = unwrap_or (number_of options name) 0
