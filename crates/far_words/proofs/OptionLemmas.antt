-- An option as the parts before and after its first `=`.
use Rattle.std.proofs.Common.{◌≡◌, ℕ, ◌+◌, ◌<◌, Bool, true, false, cond, not, ◌&&◌, ◌||◌, nat_lt, List, [], ◌∷◌, length, map, take, get_or, arith, refl, ap, sym, ◌∙◌}
use Rattle.std.specs.Str.{bytes_eq}
use Rattle.std.specs.List.{list_any, position_or_len}
use Rattle.std.proofs.lemmas.List.{take-map, get_or-map}
use Rattle.std.proofs.lemmas.Bool.{and_left, lt-ltb, le-ltb}
use Rattle.std.proofs.lemmas.Bool.Decides.{nat_tests}
use Rattle.far_model.specs.Words as model
use Rattle.far_model.specs.Words.{is_equals, is_value, option_name, option_value, is_option_of, has_option, is_bad_option}

has-equals : (word : List ℕ) → list_any is_equals word ≡ nat_lt (position_or_len is_equals word) (length word)
has-equals [] = refl
has-equals (b ∷ rest) = go (is_equals b) (has-equals rest)
  where
    go : (e : Bool) → list_any is_equals rest ≡ nat_lt (position_or_len is_equals rest) (length rest)
        → (e || list_any is_equals rest) ≡ nat_lt (cond (not e) (1 + position_or_len is_equals rest) 0) (length (b ∷ rest))
    go true h = grind (arith, nat_tests)
    go false h = h ∙ grind (arith, nat_tests)

-- a word without `=` is no option
pub no-equals : (rules : List model.OptionRule) (word : List ℕ) → position_or_len is_equals word ≡ length word → false ≡ is_option_of rules word
no-equals rules word none =
    sym (and_left _ _ (has-equals word ∙ le-ltb (position_or_len is_equals word) (length word) (omega arith)))

-- A word with `=` consists of the parts before and after it.
pub parts-of-option : (rules : List model.OptionRule) (word name value : List ℕ) (r : Bool) → position_or_len is_equals word < length word
    → name ≡ option_name word → value ≡ option_value word
    → r ≡ list_any (λ rule. bytes_eq name rule.name && is_value rule.kind value) rules → r ≡ is_option_of rules word
parts-of-option rules word name value r within before after is =
    let equals : list_any is_equals word ≡ true = has-equals word ∙ lt-ltb _ _ within in
    is
    ∙ ap (λ n. list_any (λ rule. bytes_eq n rule.name && is_value rule.kind value) rules) before
    ∙ ap (λ v. list_any (λ rule. bytes_eq (option_name word) rule.name && is_value rule.kind v) rules) after
    ∙ sym (ap (λ b. b && list_any (λ rule. bytes_eq (option_name word) rule.name && is_value rule.kind (option_value word)) rules) equals)

-- whether the option at a place is bad, where texts are seen as their bytes
pub bad-at-place : {X : Type 0} (bytes : X → List ℕ) (rules : List model.OptionRule) (options : List X) (place : ℕ) (option : X) (word : List ℕ)
    → place < length options → option ≡ get_or options place option → word ≡ bytes option
    → (not (is_option_of rules word) || has_option (map bytes (take place options)) (option_name word)) ≡ is_bad_option rules (map bytes options) place
bad-at-place bytes rules options place option word within is seen =
    let P : List ℕ → List (List ℕ) → Bool = λ word earlier. not (is_option_of rules word) || has_option earlier (option_name word) in
    ap (λ earlier. P word earlier) (sym (take-map bytes place options))
    ∙ ap (λ word. P word (take place (map bytes options))) (seen ∙ ap bytes is ∙ sym (get_or-map bytes options place option [] within))
