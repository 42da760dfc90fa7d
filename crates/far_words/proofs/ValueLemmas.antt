-- Values of options that are understood: each is one that a rule allows, and the required ones are there.
use Rattle.std.proofs.Common.{◌≡◌, ℕ, Bool, true, false, cond, not, ◌&&◌, ◌||◌, List, [], ◌∷◌, Option, Some, None, refl, ap, sym, ◌∙◌, subst}
use Rattle.std.specs.Prelude.{bytes_eq, is_some}
use Rattle.std.specs.Option.{option_map}
use Rattle.std.specs.List.{list_all, list_any, find}
use Rattle.std.proofs.lemmas.Bool.{and_parts}
use Rattle.std.proofs.lemmas.Slice.Eq.{bytes_eq-Decides}
use Rattle.far_model.specs.Words.{OptionRule, CommandRule, is_value, option_name, option_value, is_option_of, is_equals, has_option, has_required, value_of, usage_of_rule}
use Rattle.far_words.proofs.GoodOptionLemmas.{IsGood}
use Rattle.far_words.proofs.OrderLemmas.{understood-parts}

-- A found value passes the test of the search, and every test that all values pass.
pub find-passes : {X : Type 0} (p q : X → Bool) (xs : List X) (x : X) → list_all p xs ≡ true → find q xs ≡ Some x → (p x ≡ true) × (q x ≡ true)
find-passes p q [] x all h = absurd (cc)
find-passes {X = X} p q (y ∷ ys) x all h = go (q y) refl (λ k. find-passes p q ys x parts.1 k) h
  where
    parts : (p y ≡ true) × (list_all p ys ≡ true)
    parts = and_parts (p y) (list_all p ys) all

    go : (b : Bool) → q y ≡ b → (find q ys ≡ Some x → (p x ≡ true) × (q x ≡ true)) → cond b (Some y) (find q ys) ≡ Some x
        → (p x ≡ true) × (q x ≡ true)
    go true e later k = let same : y ≡ x = cc in (subst (λ z. p z ≡ true) same parts.0, subst (λ z. q z ≡ true) same e)
    go false e later k = later k

pub allowed-value : (rules : List OptionRule) (options : List (List ℕ)) (name value : List ℕ) → IsGood rules options
    → value_of options name ≡ Some value
    → list_any (λ rule. bytes_eq name rule.name && is_value rule.kind value) rules ≡ true
allowed-value rules options name value good h = go (find (λ option. bytes_eq name (option_name option)) options) refl h
  where
    go : (found : Option (List ℕ)) → find (λ option. bytes_eq name (option_name option)) options ≡ found
        → option_map option_value found ≡ Some value
        → list_any (λ rule. bytes_eq name rule.name && is_value rule.kind value) rules ≡ true
    go None e k = absurd (cc)
    go (Some option) e k =
        let passes = find-passes (is_option_of rules) (λ option. bytes_eq name (option_name option)) options option good.known e in
        let named : option_name option ≡ name = sym ((bytes_eq-Decides name (option_name option)).0 passes.1) in
        let valued : option_value option ≡ value = cc in
        let P : List ℕ → List ℕ → Type 0 = λ n v. list_any (λ rule. bytes_eq n rule.name && is_value rule.kind v) rules ≡ true in
        subst (P name) valued (subst (λ n. P n (option_value option)) named (and_parts (list_any is_equals option) _ passes.0).1)

has-value : (options : List (List ℕ)) (name : List ℕ) → has_option options name ≡ is_some (value_of options name)
has-value [] name = refl
has-value (option ∷ options) name = go (bytes_eq name (option_name option)) (has-value options name)
  where
    go : (b : Bool) → has_option options name ≡ is_some (value_of options name)
        → (b || has_option options name) ≡ is_some (option_map option_value (cond b (Some option) (find (λ o. bytes_eq name (option_name o)) options)))
    go true h = refl
    go false h = h

required-values : (rules : List OptionRule) (options : List (List ℕ))
    → has_required rules options ≡ list_all (λ rule. not rule.required || is_some (value_of options rule.name)) rules
required-values [] options = refl
required-values (rule ∷ rules) options =
    ap (λ b. (not rule.required || b) && has_required rules options) (has-value options rule.name)
    ∙ ap (λ b. (not rule.required || is_some (value_of options rule.name)) && b) (required-values rules options)

pub allowed-of-rule : (found : Option CommandRule) (options : List (List ℕ)) (rule : CommandRule) (name value : List ℕ) → found ≡ Some rule
    → usage_of_rule found options ≡ None → value_of options name ≡ Some value
    → list_any (λ option. bytes_eq name option.name && is_value option.kind value) rule.options ≡ true
allowed-of-rule found options rule name value is none h =
    allowed-value rule.options options name value
    (understood-parts rule.options options (ap (λ f. usage_of_rule f options) (sym is) ∙ none)).0 h

pub required-of-rule : (found : Option CommandRule) (options : List (List ℕ)) (rule : CommandRule) → found ≡ Some rule
    → usage_of_rule found options ≡ None
    → list_all (λ option. not option.required || is_some (value_of options option.name)) rule.options ≡ true
required-of-rule found options rule is none =
    sym (required-values rule.options options) ∙ (understood-parts rule.options options (ap (λ f. usage_of_rule f options) (sym is) ∙ none)).1
