-- Good options of a table whose numbers fit have numbers that fit, and there are few of them.
use Rattle.std.proofs.Common.{◌≡◌, ℕ, ◌<◌, ◌≤◌, true, not, ◌&&◌, inl, inr, nat_le, List, [], ◌∷◌, length, Option, Some, None, Err, Result, arith, refl, ap, sym, ◌∙◌, subst, codes}
use Rattle.std.specs.Prelude.{bytes_eq, if◌then◌else◌}
use Rattle.std.specs.Option.{option_map, option_and_then}
use Rattle.std.specs.List.{list_all, list_any}
use Rattle.std.proofs.lemmas.Bool.{and_parts, and_from, or_cases, leb-true, le-leb, ltb-true}
use Rattle.std.proofs.lemmas.Slice.Eq.{bytes_eq-Decides}
use Rattle.subdiv_model.specs.Digits.{number_of_digits, is_number_word}
use Rattle.far_model.specs.Words.{ValueKind, Number, OneOf, OptionRule, CommandRule, is_value, first_bad_option, number_of, rule_named, usage_of_rule, value_of}
use Rattle.far_model.specs.Command.{Command, read_or, read_words_by}
use Rattle.far_words.proofs.GoodOptionLemmas.{IsGood, good-of-none}
use Rattle.far_words.proofs.ValueLemmas.{allowed-value}
use Rattle.far_words.specs.Table.{u32_of_word, u32_of_option, AreNumbersU32, number_names, is_u32_kind, is_u32_option, is_u32_rule}

-- the value of a kind of numbers that fit is a number that fits
number-value : (kind : ValueKind) (value : List ℕ) → is_u32_kind kind ≡ true → is_value kind value ≡ true
    → u32_of_word value ≡ Some (number_of_digits value)
number-value (OneOf names) value small is = absurd (cc)
number-value (Number least greatest) value small is =
    let outer = and_parts (is_number_word value && nat_le least (number_of_digits value)) (nat_le (number_of_digits value) greatest) is in
    let inner = and_parts (is_number_word value) (nat_le least (number_of_digits value)) outer.0 in
    let below : number_of_digits value ≤ greatest = leb-true _ _ outer.1 in
    let most : greatest ≤ 4294967295 = leb-true _ _ small in
    ap (λ b. if b then Some (number_of_digits value) else None) (and_from _ _ inner.0 (le-leb (number_of_digits value) 4294967295 (omega arith)))

-- among rules whose numbers fit, a value for a number's name is a number that fits
number-by-rules : (rules : List OptionRule) (name value : List ℕ) → list_all is_u32_option rules ≡ true
    → list_any (bytes_eq name) number_names ≡ true
    → list_any (λ rule. bytes_eq name rule.name && is_value rule.kind value) rules ≡ true → u32_of_word value ≡ Some (number_of_digits value)
number-by-rules [] name value all among h = absurd (cc)
number-by-rules (rule ∷ rules) name value all among h =
    let parts = and_parts (is_u32_option rule) (list_all is_u32_option rules) all in
    elim (or_cases (bytes_eq name rule.name && is_value rule.kind value) (list_any (λ r. bytes_eq name r.name && is_value r.kind value) rules) h) [
      | inl here ↦
          let both = and_parts (bytes_eq name rule.name) (is_value rule.kind value) here in
          let same : name ≡ rule.name = (bytes_eq-Decides name rule.name).0 both.0 in
          let numbered : list_any (bytes_eq rule.name) number_names ≡ true = subst (λ n. list_any (bytes_eq n) number_names ≡ true) same among in
          elim (or_cases (not (list_any (bytes_eq rule.name) number_names)) (is_u32_kind rule.kind) parts.0) [
            | inl other ↦ absurd (let wrong : not true ≡ true = ap not (sym numbered) ∙ other in cc)
            | inr small ↦ number-value rule.kind value small both.1
          ]
      | inr there ↦ number-by-rules rules name value parts.1 among there
    ]

numbers-of-good : (rules : List OptionRule) (options : List (List ℕ)) → list_all is_u32_option rules ≡ true → IsGood rules options
    → (name : List ℕ) → list_any (bytes_eq name) number_names ≡ true → u32_of_option options name ≡ number_of options name
numbers-of-good rules options all good name among = go (value_of options name) refl
  where
    go : (value : Option (List ℕ)) → value_of options name ≡ value → option_and_then u32_of_word value ≡ option_map number_of_digits value
    go None h = refl
    go (Some value) h = number-by-rules rules name value all among (allowed-value rules options name value good h)

pub small-numbers : (rule : CommandRule) (options : List (List ℕ)) → is_u32_rule rule ≡ true
    → first_bad_option rule.options options ≡ None → AreNumbersU32 options
small-numbers rule options small h =
    let all = and_parts (list_all is_u32_option rule.options) _ small in
    let good = good-of-none rule.options options h in
    record {
      depth = numbers-of-good rule.options options all.0 good (codes "depth") refl;
      decimals = numbers-of-good rule.options options all.0 good (codes "decimals") refl;
      seed = numbers-of-good rule.options options all.0 good (codes "seed") refl;
      size = numbers-of-good rule.options options all.0 good (codes "size") refl;
      scale = numbers-of-good rule.options options all.0 good (codes "scale") refl;
      face = numbers-of-good rule.options options all.0 good (codes "face") refl;
      grid = numbers-of-good rule.options options all.0 good (codes "grid") refl;
      corner = numbers-of-good rule.options options all.0 good (codes "corner") refl;
    }

pub few-rules : (rule : CommandRule) → is_u32_rule rule ≡ true → length rule.options < 4294967295
few-rules rule small = ltb-true _ _ (and_parts (list_all is_u32_option rule.options) _ small).1

-- Reading uses the rule that the first word names.
pub read-by-rule : (table : List CommandRule) (words : List (List ℕ)) (name : List ℕ) (options : List (List ℕ)) (rule : CommandRule) (r : Result Command ℕ)
    → words ≡ name ∷ options → Some rule ≡ rule_named table name → r ≡ read_or (usage_of_rule (Some rule) options) (name ∷ options)
    → r ≡ read_words_by table words
read-by-rule table words name options rule r whole found is =
    is ∙ ap (λ found. read_or (usage_of_rule found options) (name ∷ options)) found ∙ ap (read_words_by table) (sym whole)

pub read-by-none : (table : List CommandRule) (words : List (List ℕ)) (name : List ℕ) (options : List (List ℕ))
    → words ≡ name ∷ options → None ≡ rule_named table name → Err 0 ≡ read_words_by table words
read-by-none table words name options whole found =
    ap (λ found. read_or (usage_of_rule found options) (name ∷ options)) found ∙ ap (read_words_by table) (sym whole)
