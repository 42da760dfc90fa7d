-- Options in another order are equally good, and give each name the same value.
use Rattle.std.proofs.Common.{◌≡◌, ℕ, ◌+◌, ◌≤◌, Bool, true, false, cond, not, ◌&&◌, ◌||◌, List, [], ◌∷◌, length, map, Option, Some, None, Ok, refl, ap, sym, ◌∙◌, subst}
use Rattle.std.specs.Prelude.{bytes_eq, MatchOption, codes, if◌then◌else◌}
use Rattle.std.specs.Option.{option_map}
use Rattle.std.specs.List.{list_all, list_any, find, IsDistinct}
use Rattle.std.specs.List.Sorted.{IsPermutation}
use Rattle.std.specs.Map.{lookup, keys_of}
use Rattle.std.proofs.lemmas.Cmp.{nat_list_eq_equiv}
use Rattle.std.proofs.lemmas.List.Sorted.{IsPermutation-sym, IsPermutation-map, Contains-permutation, list_any-IsPermutation}
use Rattle.std.proofs.lemmas.Slice.Eq.{bytes_eq-Decides}
use Rattle.std.proofs.lemmas.Map.Keys.{IsDistinct-IsPermutation}
use Rattle.std.proofs.lemmas.Map.Views.{Contains-from_lookup, lookup-from_Contains}
use Rattle.far_model.specs.Words.{OptionRule, CommandRule, option_name, option_value, is_option_of, has_option, has_required, first_bad_option, value_of, usage_of_options, usage_of_rule, required_number, rule_named, usage_of}
use Rattle.far_model.specs.Command.{Command, Reads, Stored, Makes, Streams, Refine, Sparse, Stencils, Limit, Levels, Patch, Map, Verify, Apply, Gen, Frames, RefineOptions, SparseOptions, LimitOptions, PatchOptions, MapOptions, FramesOptions, GenOptions, command_named, frames_of, gen_of, limit_of, map_of, patch_of, refine_of, sparse_of, read_words_by, read_or}
use Rattle.far_words.proofs.GoodOptionLemmas.{names_of, IsGood, good-or-early, none-bad-of-good}

-- an option as its name and its value
abbrev pub entry : List ℕ → List ℕ × List ℕ
entry option = (option_name option, option_value option)

value-cond : (b : Bool) (option : List ℕ) (rest : Option (List ℕ))
    → option_map option_value (cond b (Some option) rest) ≡ cond b (Some (option_value option)) (option_map option_value rest)
value-cond true option rest = refl
value-cond false option rest = refl

pub value-lookup : (options : List (List ℕ)) (name : List ℕ) → value_of options name ≡ lookup (bytes_eq name) (map entry options)
value-lookup [] name = refl
value-lookup (option ∷ options) name =
    value-cond (bytes_eq name (option_name option)) option (find (λ o. bytes_eq name (option_name o)) options)
    ∙ ap (cond (bytes_eq name (option_name option)) (Some (option_value option))) (value-lookup options name)

keys-entries : (options : List (List ℕ)) → keys_of (map entry options) ≡ names_of options
keys-entries [] = refl
keys-entries (option ∷ options) = ap (λ names. option_name option ∷ names) (keys-entries options)

same-key : (x y : List ℕ) → bytes_eq x y ≡ true → x ≡ y
same-key x y = (bytes_eq-Decides x y).0

-- With distinct keys, a search finds the same value in any order.
lookup-order : (name : List ℕ) (es fs : List (List ℕ × List ℕ)) → IsDistinct bytes_eq (keys_of es) → IsDistinct bytes_eq (keys_of fs)
    → IsPermutation es fs → lookup (bytes_eq name) fs ≡ lookup (bytes_eq name) es
lookup-order name es fs d e p = go (lookup (bytes_eq name) es) (lookup (bytes_eq name) fs) refl refl
  where
    go : (a b : Option (List ℕ)) → lookup (bytes_eq name) es ≡ a → lookup (bytes_eq name) fs ≡ b
        → lookup (bytes_eq name) fs ≡ lookup (bytes_eq name) es
    go None None h k = k ∙ sym h
    go (Some v) b h k =
        lookup-from_Contains nat_list_eq_equiv name v fs e (Contains-permutation es fs (name, v) p (Contains-from_lookup same-key name v es h)) ∙ sym h
    go None (Some v) h k =
        k ∙ sym (lookup-from_Contains nat_list_eq_equiv name v es d
        (Contains-permutation fs es (name, v) (IsPermutation-sym es fs p) (Contains-from_lookup same-key name v fs k)))

all-none : {X : Type 0} (p : X → Bool) (xs : List X) → list_all p xs ≡ not (list_any (λ x. not (p x)) xs)
all-none p [] = refl
all-none p (x ∷ xs) = both (p x) (all-none p xs)
  where
    both : (b : Bool) → list_all p xs ≡ not (list_any (λ x. not (p x)) xs) → (b && list_all p xs) ≡ not (not b || list_any (λ x. not (p x)) xs)
    both true e = e
    both false e = refl

IsGood-order : (rules : List OptionRule) (options others : List (List ℕ)) → IsPermutation options others → IsGood rules options
    → IsGood rules others
IsGood-order rules options others p good = record {
  known =
      all-none (is_option_of rules) others
      ∙ ap not (sym (list_any-IsPermutation (λ o. not (is_option_of rules o)) options others p))
      ∙ sym (all-none (is_option_of rules) options) ∙ good.known;
  once = IsDistinct-IsPermutation bytes_eq nat_list_eq_equiv.symm (names_of options) (names_of others) (IsPermutation-map option_name options others p) good.once;
}

pub value-order : (rules : List OptionRule) (options others : List (List ℕ)) → IsPermutation options others → IsGood rules options
    → (name : List ℕ) → value_of others name ≡ value_of options name
value-order rules options others p good name =
    let moved = IsGood-order rules options others p good in
    value-lookup others name
    ∙ lookup-order name (map entry options) (map entry others)
    (subst (IsDistinct bytes_eq) (sym (keys-entries options)) good.once)
    (subst (IsDistinct bytes_eq) (sym (keys-entries others)) moved.once)
    (IsPermutation-map entry options others p)
    ∙ sym (value-lookup options name)

required-order : (rules : List OptionRule) (options others : List (List ℕ)) → IsPermutation options others
    → has_required rules others ≡ has_required rules options
required-order [] options others p = refl
required-order (rule ∷ rules) options others p =
    let same : has_option others rule.name ≡ has_option options rule.name =
    sym (list_any-IsPermutation (λ o. bytes_eq rule.name (option_name o)) options others p) in
    ap (λ b. (not rule.required || b) && has_required rules others) same
    ∙ ap (λ b. (not rule.required || has_option options rule.name) && b) (required-order rules options others p)

-- options are understood exactly where none is bad and none is missing
pub understood-parts : (rules : List OptionRule) (options : List (List ℕ))
    → usage_of_options rules options (first_bad_option rules options) ≡ None
    → IsGood rules options × (has_required rules options ≡ true)
understood-parts rules options h = go (first_bad_option rules options) (has_required rules options) refl (good-or-early rules options) h
  where
    go : (bad : Option ℕ) (required : Bool) → has_required rules options ≡ required
        → MatchOption bad (IsGood rules options) (λ i. i ≤ length rules)
        → usage_of_options rules options bad ≡ None → IsGood rules options × (has_required rules options ≡ true)
    go None true e good h = (good, e)
    go None false e good h = absurd (let stuck : Some (length options + 1) ≡ None = ap (λ b. if b then None else Some (length options + 1)) (sym e) ∙ h in cc)
    go (Some i) required e early h = absurd (cc)

pub understood-from : (rules : List OptionRule) (options : List (List ℕ)) → IsGood rules options → has_required rules options ≡ true
    → usage_of_options rules options (first_bad_option rules options) ≡ None
understood-from rules options good required =
    ap (usage_of_options rules options) (none-bad-of-good rules options good) ∙ ap (λ b. if b then None else Some (length options + 1)) required

pub understood-order : (rules : List OptionRule) (options others : List (List ℕ)) → IsPermutation options others
    → usage_of_options rules options (first_bad_option rules options) ≡ None
    → usage_of_options rules others (first_bad_option rules others) ≡ None
understood-order rules options others p h =
    let parts = understood-parts rules options h in
    understood-from rules others (IsGood-order rules options others p parts.0) (required-order rules options others p ∙ parts.1)

pub usage-order : (found : Option CommandRule) (options others : List (List ℕ)) → IsPermutation options others
    → usage_of_rule found options ≡ None → usage_of_rule found others ≡ None
usage-order None options others p h = absurd (cc)
usage-order (Some rule) options others p h = understood-order rule.options options others p h

-- The command of a name, from the values of its options.
abbrev command-by : (name : List ℕ) (refine : RefineOptions) (sparse : SparseOptions) (depth : ℕ) (limit : LimitOptions) (frames : FramesOptions) (patch : PatchOptions) (map : MapOptions) (gen : GenOptions) → Command
command-by name refine sparse depth limit frames patch map gen =
    if bytes_eq name (codes "refine") then Reads (Refine refine)
    else if bytes_eq name (codes "sparse") then Reads (Sparse sparse)
    else if bytes_eq name (codes "stencils") then Reads (Stencils depth)
    else if bytes_eq name (codes "limit") then Reads (Limit limit)
    else if bytes_eq name (codes "frames") then Streams (Frames frames)
    else if bytes_eq name (codes "levels") then Reads (Levels depth)
    else if bytes_eq name (codes "patch") then Reads (Patch patch)
    else if bytes_eq name (codes "map") then Reads (Map map)
    else if bytes_eq name (codes "verify") then Stored (Verify depth)
    else if bytes_eq name (codes "apply") then Stored Apply
    else Makes (Gen gen)

-- a command is filled in by the values of its options
module _ (options others : List (List ℕ)) (same : (n : List ℕ) → value_of others n ≡ value_of options n) where
  depth-same : required_number others (codes "depth") ≡ required_number options (codes "depth")
  depth-same = cc (same (codes "depth"))

  refine-same : refine_of others ≡ refine_of options
  refine-same = cc (same (codes "depth"), same (codes "decimals"), same (codes "uv"), same (codes "by"), same (codes "tags"))

  sparse-same : sparse_of others ≡ sparse_of options
  sparse-same = cc (same (codes "depth"), same (codes "select"), same (codes "decimals"), same (codes "uv"))

  limit-same : limit_of others ≡ limit_of options
  limit-same = cc (same (codes "depth"), same (codes "decimals"))

  patch-same : patch_of others ≡ patch_of options
  patch-same = cc (same (codes "depth"), same (codes "face"), same (codes "grid"))

  map-same : map_of others ≡ map_of options
  map-same = cc (same (codes "depth"), same (codes "face"), same (codes "grid"), same (codes "corner"), same (codes "select"))

  frames-same : frames_of others ≡ frames_of options
  frames-same = cc (same (codes "depth"), same (codes "scale"))

  gen-same : gen_of others ≡ gen_of options
  gen-same = cc (same (codes "seed"), same (codes "size"), same (codes "depth"))

  command-same : (name : List ℕ) → command_named name others ≡ command_named name options
  command-same name =
      ap (λ refine. command-by name refine (sparse_of others) (required_number others (codes "depth")) (limit_of others) (frames_of others) (patch_of others) (map_of others) (gen_of others)) refine-same
      ∙ ap (λ sparse. command-by name (refine_of options) sparse (required_number others (codes "depth")) (limit_of others) (frames_of others) (patch_of others) (map_of others) (gen_of others)) sparse-same
      ∙ ap (λ depth. command-by name (refine_of options) (sparse_of options) depth (limit_of others) (frames_of others) (patch_of others) (map_of others) (gen_of others)) depth-same
      ∙ ap (λ limit. command-by name (refine_of options) (sparse_of options) (required_number options (codes "depth")) limit (frames_of others) (patch_of others) (map_of others) (gen_of others)) limit-same
      ∙ ap (λ frames. command-by name (refine_of options) (sparse_of options) (required_number options (codes "depth")) (limit_of options) frames (patch_of others) (map_of others) (gen_of others)) frames-same
      ∙ ap (λ patch. command-by name (refine_of options) (sparse_of options) (required_number options (codes "depth")) (limit_of options) (frames_of options) patch (map_of others) (gen_of others)) patch-same
      ∙ ap (λ map. command-by name (refine_of options) (sparse_of options) (required_number options (codes "depth")) (limit_of options) (frames_of options) (patch_of options) map (gen_of others)) map-same
      ∙ ap (command-by name (refine_of options) (sparse_of options) (required_number options (codes "depth")) (limit_of options) (frames_of options) (patch_of options) (map_of options)) gen-same

value-in-order : (found : Option CommandRule) (options others : List (List ℕ)) → IsPermutation options others
    → usage_of_rule found options ≡ None
    → (name : List ℕ) → value_of others name ≡ value_of options name
value-in-order None options others p h name = absurd (cc)
value-in-order (Some rule) options others p h name = value-order rule.options options others p (understood-parts rule.options options h).0 name

pub reading-order : (table : List CommandRule) (command : List ℕ) (options others : List (List ℕ)) → IsPermutation options others
    → usage_of table (command ∷ options) ≡ None → read_words_by table (command ∷ others) ≡ read_words_by table (command ∷ options)
reading-order table command options others p h =
    ap (λ usage. read_or usage (command ∷ others)) (usage-order (rule_named table command) options others p h)
    ∙ ap Ok (command-same options others (value-in-order (rule_named table command) options others p h) command)
    ∙ sym (ap (λ usage. read_or usage (command ∷ options)) h)
