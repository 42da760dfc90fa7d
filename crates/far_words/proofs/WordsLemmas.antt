-- The commands of words.
use Rattle.std.proofs.Common.{◌≡◌, ℕ, ◌<◌, ◌≤◌, ◌^◌, Bool, true, false, cond, ◌&&◌, ◌||◌, nat_le, List, [], ◌∷◌, Option, Some, None, Result, Ok, Err, IfOk, codes, arith, refl, ap, sym, subst}
use Rattle.std.specs.Prelude.{bytes_eq, is_some, IfSome, option_map, unwrap_or}
use Rattle.std.proofs.lemmas.Bool.Decides.{nat_tests}
use Rattle.std.proofs.lemmas.Slice.Eq.{bytes_eq-Decides}
use Rattle.far_model.specs.Words.{CommandRule, command_table, required_option, number_option, name_option, texture_names, path_names, tags_names, select_names, sparse_texture_names, usage_of, usage_of_rule, value_of, number_of, required_number}
use Rattle.subdiv_model.specs.Digits.{number_of_digits, is_number_word}
use Rattle.far_model.specs.Command as model
use Rattle.far_model.specs.Command.{IsInRange, command_of, read_or, read_words_by}
use Rattle.far_words.specs.declared.command.Command.{Command}
use Rattle.far_words.specs.View.{command_of_code, result_of_code}
use Rattle.far_words.proofs.ValueLemmas.{allowed-of-rule, required-of-rule}

-- The command that was read is the one that the table gives the words.
understood-by : (usage : Option ℕ) (words : List (List ℕ)) (r : Result Command ℕ) (command : Command) → result_of_code r ≡ read_or usage words →
    r ≡ Ok command → usage ≡ None
understood-by (Some place) words r command read is = absurd (cc)
understood-by None words r command read is = refl

-- words that are read have no bad one
pub understood : (words : List (List ℕ)) (r : Result Command ℕ) (command : Command) → result_of_code r ≡ read_words_by command_table words →
    r ≡ Ok command → usage_of command_table words ≡ None
understood words r command read is = understood-by (usage_of command_table words) words r command read is

-- One result contains one command.
same-ok : (r : Result model.Command ℕ) (a b : model.Command) → r ≡ Ok a → r ≡ Ok b → a ≡ b
same-ok r a b e f = cc

said-by : (usage : Option ℕ) (words : List (List ℕ)) (r : Result Command ℕ) (command : Command) → result_of_code r ≡ read_or usage words →
    r ≡ Ok command → command_of_code command ≡ command_of words
said-by (Some place) words r command read is = absurd (cc)
said-by None words r command read is = same-ok (result_of_code r) (command_of_code command) (command_of words) (ap result_of_code is) read

pub said : (words : List (List ℕ)) (r : Result Command ℕ) (command : Command) → result_of_code r ≡ read_words_by command_table words →
    r ≡ Ok command → command_of_code command ≡ command_of words
said words r command read is = said-by (usage_of command_table words) words r command read is

-- the rows of the table
abbrev refine_rule : CommandRule
refine_rule = record {
  name = codes "refine";
  options =
      required_option (codes "depth") 0 10
      ∷ number_option (codes "decimals") 0 18
      ∷ name_option (codes "uv") texture_names
      ∷ name_option (codes "by") path_names
      ∷ name_option (codes "tags") tags_names
      ∷ [];
}

-- of a command with a depth and nothing else
abbrev depth_rule : List ℕ → CommandRule
depth_rule name = record { name = name; options = required_option (codes "depth") 0 10 ∷ [] }

abbrev gen_rule : CommandRule
gen_rule = record {
  name = codes "gen";
  options = required_option (codes "seed") 0 4294967295 ∷ required_option (codes "size") 1 256 ∷ required_option (codes "depth") 0 10 ∷ [];
}

abbrev sparse_rule : CommandRule
sparse_rule = record { name = codes "sparse"; options = required_option (codes "depth") 0 10 ∷ name_option (codes "select") select_names ∷ number_option (codes "decimals") 0 18 ∷ name_option (codes "uv") sparse_texture_names ∷ [] }

abbrev limit_rule : CommandRule
limit_rule = record { name = codes "limit"; options = required_option (codes "depth") 1 10 ∷ number_option (codes "decimals") 0 18 ∷ [] }

abbrev patch_rule : CommandRule
patch_rule = record {
  name = codes "patch";
  options = required_option (codes "depth") 0 10 ∷ required_option (codes "face") 0 4194303 ∷ required_option (codes "grid") 1 64 ∷ [];
}

abbrev map_rule : CommandRule
map_rule = record {
  name = codes "map";
  options =
      required_option (codes "depth") 0 10
      ∷ required_option (codes "face") 0 1048575
      ∷ required_option (codes "grid") 1 256
      ∷ number_option (codes "corner") 0 65535
      ∷ name_option (codes "select") select_names
      ∷ [];
}

abbrev frames_rule : CommandRule
frames_rule = record { name = codes "frames"; options = required_option (codes "depth") 0 10 ∷ number_option (codes "scale") 0 18 ∷ [] }

-- of a command without options
abbrev apply_rule : CommandRule
apply_rule = record { name = codes "apply"; options = [] }

-- a value that is a number between two others
within_bounds : (digits : Bool) (least greatest n : ℕ) → ((digits && nat_le least n && nat_le n greatest) || false) ≡ true → (least ≤ n) × (n ≤ greatest)
within_bounds true least greatest n allowed = (grind (arith, nat_tests), grind (arith, nat_tests))
within_bounds false least greatest n allowed = absurd (cc)

some_value : (found : Option (List ℕ)) → (is_some found && true) ≡ true → (value : List ℕ) × (found ≡ Some value)
some_value (Some value) there = (value, refl)
some_value None there = absurd (cc)

-- of three options that are all there, each
each_of_three : (a b c : Bool) → (a && (b && (c && true))) ≡ true → ((a && true) ≡ true) × ((b && true) ≡ true) × ((c && true) ≡ true)
each_of_three true true true all = (refl, refl, refl)
each_of_three true true false all = absurd (cc)
each_of_three true false c all = absurd (cc)
each_of_three false b c all = absurd (cc)

-- the number of an option whose value is one between two others
number_within : (options : List (List ℕ)) (name value : List ℕ) (least greatest : ℕ) → value_of options name ≡ Some value →
    ((is_number_word value && nat_le least (number_of_digits value) && nat_le (number_of_digits value) greatest) || false) ≡ true →
    (least ≤ required_number options name) × (required_number options name ≤ greatest)
number_within options name value least greatest is allowed = rw is (within_bounds (is_number_word value) least greatest (number_of_digits value) allowed)

-- Understood options give a depth of at most 10, at most 18 decimals, and a size from 1 to 256.
refine_depth : (options : List (List ℕ)) → usage_of_rule (Some refine_rule) options ≡ None → required_number options (codes "depth") ≤ 10
refine_depth options none =
    let found = some_value (value_of options (codes "depth")) (required-of-rule (Some refine_rule) options refine_rule refl none) in
    let allowed = allowed-of-rule (Some refine_rule) options refine_rule (codes "depth") found.0 refl none found.1 in
    (number_within options (codes "depth") found.0 0 10 found.1 allowed).1

refine_decimals : (options : List (List ℕ)) → usage_of_rule (Some refine_rule) options ≡ None → IfSome (number_of options (codes "decimals")) (λ digits. digits ≤ 18)
refine_decimals options none = go (value_of options (codes "decimals")) refl
  where
    go : (found : Option (List ℕ)) → value_of options (codes "decimals") ≡ found → IfSome (option_map number_of_digits found) (λ digits. digits ≤ 18)
    go None is = tt
    go (Some value) is =
        (within_bounds (is_number_word value) 0 18 (number_of_digits value)
        (allowed-of-rule (Some refine_rule) options refine_rule (codes "decimals") value refl none is)).1

sparse_depth : (options : List (List ℕ)) → usage_of_rule (Some sparse_rule) options ≡ None → required_number options (codes "depth") ≤ 10
sparse_depth options none =
    let found = some_value (value_of options (codes "depth")) (required-of-rule (Some sparse_rule) options sparse_rule refl none) in
    let allowed = allowed-of-rule (Some sparse_rule) options sparse_rule (codes "depth") found.0 refl none found.1 in
    (number_within options (codes "depth") found.0 0 10 found.1 allowed).1

sparse_decimals : (options : List (List ℕ)) → usage_of_rule (Some sparse_rule) options ≡ None → IfSome (number_of options (codes "decimals")) (λ digits. digits ≤ 18)
sparse_decimals options none = go (value_of options (codes "decimals")) refl
  where
    go : (found : Option (List ℕ)) → value_of options (codes "decimals") ≡ found → IfSome (option_map number_of_digits found) (λ digits. digits ≤ 18)
    go None is = tt
    go (Some value) is =
        (within_bounds (is_number_word value) 0 18 (number_of_digits value)
        (allowed-of-rule (Some sparse_rule) options sparse_rule (codes "decimals") value refl none is)).1

limit_depth : (options : List (List ℕ)) → usage_of_rule (Some limit_rule) options ≡ None
    → (1 ≤ required_number options (codes "depth")) × (required_number options (codes "depth") ≤ 10)
limit_depth options none =
    let found = some_value (value_of options (codes "depth")) (required-of-rule (Some limit_rule) options limit_rule refl none) in
    let allowed = allowed-of-rule (Some limit_rule) options limit_rule (codes "depth") found.0 refl none found.1 in
    number_within options (codes "depth") found.0 1 10 found.1 allowed

limit_decimals : (options : List (List ℕ)) → usage_of_rule (Some limit_rule) options ≡ None → IfSome (number_of options (codes "decimals")) (λ digits. digits ≤ 18)
limit_decimals options none = go (value_of options (codes "decimals")) refl
  where
    go : (found : Option (List ℕ)) → value_of options (codes "decimals") ≡ found → IfSome (option_map number_of_digits found) (λ digits. digits ≤ 18)
    go None is = tt
    go (Some value) is =
        (within_bounds (is_number_word value) 0 18 (number_of_digits value)
        (allowed-of-rule (Some limit_rule) options limit_rule (codes "decimals") value refl none is)).1

depth_required : (name : List ℕ) (options : List (List ℕ)) → usage_of_rule (Some (depth_rule name)) options ≡ None → required_number options (codes "depth") ≤ 10
depth_required name options none =
    let found = some_value (value_of options (codes "depth")) (required-of-rule (Some (depth_rule name)) options (depth_rule name) refl none) in
    let allowed = allowed-of-rule (Some (depth_rule name)) options (depth_rule name) (codes "depth") found.0 refl none found.1 in
    (number_within options (codes "depth") found.0 0 10 found.1 allowed).1

gen_numbers : (options : List (List ℕ)) → usage_of_rule (Some gen_rule) options ≡ None →
    (1 ≤ required_number options (codes "size")) × (required_number options (codes "size") ≤ 256) × (required_number options (codes "depth") ≤ 10)
gen_numbers options none =
    let there = each_of_three (is_some (value_of options (codes "seed"))) (is_some (value_of options (codes "size"))) (is_some (value_of options (codes "depth")))
    (required-of-rule (Some gen_rule) options gen_rule refl none) in
    let size = some_value (value_of options (codes "size")) there.1 in
    let depth = some_value (value_of options (codes "depth")) there.2 in
    let size_within = number_within options (codes "size") size.0 1 256 size.1 (allowed-of-rule (Some gen_rule) options gen_rule (codes "size") size.0 refl none size.1) in
    let depth_within = number_within options (codes "depth") depth.0 0 10 depth.1 (allowed-of-rule (Some gen_rule) options gen_rule (codes "depth") depth.0 refl none depth.1) in
    (size_within.0, size_within.1, depth_within.1)

patch_numbers : (options : List (List ℕ)) → usage_of_rule (Some patch_rule) options ≡ None →
    (required_number options (codes "depth") ≤ 10) × (required_number options (codes "face") < 2 ^ 22)
    × (1 ≤ required_number options (codes "grid")) × (required_number options (codes "grid") ≤ 64)
patch_numbers options none =
    let there = each_of_three (is_some (value_of options (codes "depth"))) (is_some (value_of options (codes "face"))) (is_some (value_of options (codes "grid")))
    (required-of-rule (Some patch_rule) options patch_rule refl none) in
    let depth = some_value (value_of options (codes "depth")) there.0 in
    let face = some_value (value_of options (codes "face")) there.1 in
    let grid = some_value (value_of options (codes "grid")) there.2 in
    let depth_within = number_within options (codes "depth") depth.0 0 10 depth.1 (allowed-of-rule (Some patch_rule) options patch_rule (codes "depth") depth.0 refl none depth.1) in
    let face_within = number_within options (codes "face") face.0 0 4194303 face.1 (allowed-of-rule (Some patch_rule) options patch_rule (codes "face") face.0 refl none face.1) in
    let grid_within = number_within options (codes "grid") grid.0 1 64 grid.1 (allowed-of-rule (Some patch_rule) options patch_rule (codes "grid") grid.0 refl none grid.1) in
    (depth_within.1, omega (arith, face_within.1), grid_within.0, grid_within.1)

-- A missing optional number counts as 0.
frames_scale : (options : List (List ℕ)) → usage_of_rule (Some frames_rule) options ≡ None → required_number options (codes "scale") ≤ 18
frames_scale options none = go (value_of options (codes "scale")) refl
  where
    go : (found : Option (List ℕ)) → value_of options (codes "scale") ≡ found → unwrap_or (option_map number_of_digits found) 0 ≤ 18
    go None is = omega arith
    go (Some value) is =
        (within_bounds (is_number_word value) 0 18 (number_of_digits value)
        (allowed-of-rule (Some frames_rule) options frames_rule (codes "scale") value refl none is)).1

frames_depth : (options : List (List ℕ)) → usage_of_rule (Some frames_rule) options ≡ None → required_number options (codes "depth") ≤ 10
frames_depth options none =
    let found = some_value (value_of options (codes "depth")) (required-of-rule (Some frames_rule) options frames_rule refl none) in
    let allowed = allowed-of-rule (Some frames_rule) options frames_rule (codes "depth") found.0 refl none found.1 in
    (number_within options (codes "depth") found.0 0 10 found.1 allowed).1

map_corner : (options : List (List ℕ)) → usage_of_rule (Some map_rule) options ≡ None → required_number options (codes "corner") ≤ 65535
map_corner options none = go (value_of options (codes "corner")) refl
  where
    go : (found : Option (List ℕ)) → value_of options (codes "corner") ≡ found → unwrap_or (option_map number_of_digits found) 0 ≤ 65535
    go None is = omega arith
    go (Some value) is =
        (within_bounds (is_number_word value) 0 65535 (number_of_digits value)
        (allowed-of-rule (Some map_rule) options map_rule (codes "corner") value refl none is)).1

map_numbers : (options : List (List ℕ)) → usage_of_rule (Some map_rule) options ≡ None →
    (required_number options (codes "depth") ≤ 10) × (required_number options (codes "face") < 2 ^ 20)
    × (1 ≤ required_number options (codes "grid")) × (required_number options (codes "grid") ≤ 256) × (required_number options (codes "corner") < 2 ^ 16)
map_numbers options none =
    let there = each_of_three (is_some (value_of options (codes "depth"))) (is_some (value_of options (codes "face"))) (is_some (value_of options (codes "grid")))
    (required-of-rule (Some map_rule) options map_rule refl none) in
    let depth = some_value (value_of options (codes "depth")) there.0 in
    let face = some_value (value_of options (codes "face")) there.1 in
    let grid = some_value (value_of options (codes "grid")) there.2 in
    let depth_within = number_within options (codes "depth") depth.0 0 10 depth.1 (allowed-of-rule (Some map_rule) options map_rule (codes "depth") depth.0 refl none depth.1) in
    let face_within = number_within options (codes "face") face.0 0 1048575 face.1 (allowed-of-rule (Some map_rule) options map_rule (codes "face") face.0 refl none face.1) in
    let grid_within = number_within options (codes "grid") grid.0 1 256 grid.1 (allowed-of-rule (Some map_rule) options map_rule (codes "grid") grid.0 refl none grid.1) in
    (depth_within.1, omega (arith, face_within.1), grid_within.0, grid_within.1, omega (arith, map_corner options none))

-- Understood words give a command within the ranges of its options.
pub says-in-range : (words : List (List ℕ)) → usage_of command_table words ≡ None → IsInRange (command_of words)
says-in-range [] none = absurd (cc)
says-in-range (name ∷ options) none =
    by_test (bytes_eq name (codes "refine")) (bytes_eq name (codes "sparse")) (bytes_eq name (codes "stencils")) (bytes_eq name (codes "limit"))
    (bytes_eq name (codes "frames")) (bytes_eq name (codes "levels")) (bytes_eq name (codes "patch")) (bytes_eq name (codes "map"))
    (bytes_eq name (codes "verify")) (bytes_eq name (codes "apply")) (bytes_eq name (codes "gen"))
    refl refl refl refl refl refl refl refl refl refl refl none
  where
    -- The command has this name.
    named : (known : List ℕ) → bytes_eq name known ≡ true → IsInRange (command_of (known ∷ options)) → IsInRange (command_of (name ∷ options))
    named known is built = subst IsInRange (sym (ap (λ n. command_of (n ∷ options)) ((bytes_eq-Decides name known).0 is))) built

    by_test : (refined thinned tabled limited moved counted patched mapped verified applied made : Bool) →
        bytes_eq name (codes "refine") ≡ refined → bytes_eq name (codes "sparse") ≡ thinned → bytes_eq name (codes "stencils") ≡ tabled → bytes_eq name (codes "limit") ≡ limited →
        bytes_eq name (codes "frames") ≡ moved → bytes_eq name (codes "levels") ≡ counted → bytes_eq name (codes "patch") ≡ patched → bytes_eq name (codes "map") ≡ mapped → bytes_eq name (codes "verify") ≡ verified →
        bytes_eq name (codes "apply") ≡ applied → bytes_eq name (codes "gen") ≡ made →
        usage_of_rule
        (cond refined (Some refine_rule) (cond thinned (Some sparse_rule) (cond tabled (Some (depth_rule (codes "stencils"))) (cond limited (Some limit_rule)
        (cond moved (Some frames_rule) (cond counted (Some (depth_rule (codes "levels"))) (cond patched (Some patch_rule) (cond mapped (Some map_rule)
        (cond verified (Some (depth_rule (codes "verify"))) (cond applied (Some apply_rule) (cond made (Some gen_rule) None)))))))))))
        options ≡ None →
        IsInRange (command_of (name ∷ options))
    by_test true thinned tabled limited moved counted patched mapped verified applied made is d e l f g p m h i j none =
        named (codes "refine") is (refine_depth options none, refine_decimals options none)
    by_test false true tabled limited moved counted patched mapped verified applied made d is e l f g p m h i j none =
        named (codes "sparse") is (sparse_depth options none, sparse_decimals options none)
    by_test false false true limited moved counted patched mapped verified applied made d e is l f g p m h i j none =
        named (codes "stencils") is (depth_required (codes "stencils") options none)
    by_test false false false true moved counted patched mapped verified applied made d e l is f g p m h i j none =
        let depth = limit_depth options none in
        named (codes "limit") is (depth.0, depth.1, limit_decimals options none)
    by_test false false false false true counted patched mapped verified applied made d e l f is g p m h i j none =
        named (codes "frames") is (frames_depth options none, frames_scale options none)
    by_test false false false false false true patched mapped verified applied made d e l f g is p m h i j none =
        named (codes "levels") is (depth_required (codes "levels") options none)
    by_test false false false false false false true mapped verified applied made d e l f g p is m h i j none =
        named (codes "patch") is (patch_numbers options none)
    by_test false false false false false false false true verified applied made d e l f g p n is h i j none =
        named (codes "map") is (map_numbers options none)
    by_test false false false false false false false false true applied made d e l f g p h m is i j none =
        named (codes "verify") is (depth_required (codes "verify") options none)
    by_test false false false false false false false false false true made d e l f g p h m i is j none =
        named (codes "apply") is tt
    by_test false false false false false false false false false false true d e l f g p h m i j is none =
        named (codes "gen") is (gen_numbers options none)
    by_test false false false false false false false false false false false d e l f g p h m i j k none = absurd (cc)

-- a command that was read is within the bounds of its options
pub read-in-range : (words : List (List ℕ)) (r : Result Command ℕ) → result_of_code r ≡ read_words_by command_table words →
    IfOk r (λ command. IsInRange (command_of_code command))
read-in-range words (Err word) read = tt
read-in-range words (Ok command) read =
    subst IsInRange (sym (said words (Ok command) command read refl)) (says-in-range words (understood words (Ok command) command read refl))
