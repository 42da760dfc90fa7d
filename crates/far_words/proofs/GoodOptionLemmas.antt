-- Options of a command, all of them good: no more than there are rules, and no two with one name.
use Rattle.std.proofs.Common.{◌≡◌, ℕ, ◌+◌, ◌≤◌, Bool, true, false, cond, not, ◌&&◌, ◌||◌, inl, inr, List, [], ◌∷◌, ◌++◌, length, map, take, Option, Some, None, arith, refl, ap, sym, ◌∙◌, subst, append_assoc, append-nil}
use Rattle.std.specs.Prelude.{bytes_eq, MatchOption, if◌then◌else◌}
use Rattle.std.specs.List.{list_all, list_any, find, range_with_len, IsDistinct, AllByRecursion}
use Rattle.std.proofs.Math.Seq.{get_or-append_seam, take-append_seam}
use Rattle.std.proofs.lemmas.Bool.{and_parts, and_from, or_cases, or_parts, or_from, or_left, or_right, not-false, not_from_true}
use Rattle.std.proofs.lemmas.Cmp.{nat_list_eq_equiv}
use Rattle.std.proofs.lemmas.List.{map-append, length-map}
use Rattle.std.proofs.lemmas.List.Folds.{list_all-append}
use Rattle.std.proofs.lemmas.Slice.Eq.{bytes_eq-Decides}
use Rattle.std.proofs.lemmas.Map.Keys.{IsDistinct-push, IsDistinct-tail, IsDistinct-head}
use Rattle.std.proofs.lemmas.Map.Made.{length-le_from_is_member}
use Rattle.far_model.specs.Words.{OptionRule, is_value, option_name, option_value, is_option_of, has_option, is_bad_option, first_bad_option, is_equals, has_required, CommandRule, usage_of_options, usage_of_rule}

-- the names of options
abbrev pub names_of : List (List ℕ) → List (List ℕ)
names_of options = map option_name options

-- each is one of the command's, and no two have one name
pub record IsGood (rules : List OptionRule) (options : List (List ℕ)) : Type 0 where
  pub known : list_all (is_option_of rules) options ≡ true
  pub once : IsDistinct bytes_eq (names_of options)

pub has-name : (options : List (List ℕ)) (name : List ℕ) → has_option options name ≡ list_any (bytes_eq name) (names_of options)
has-name [] name = refl
has-name (option ∷ options) name = ap (λ b. bytes_eq name (option_name option) || b) (has-name options name)

-- the name of an option that one of the rules takes is a rule's
among : (rules : List OptionRule) (name value : List ℕ)
    → list_any (λ rule. bytes_eq name rule.name && is_value rule.kind value) rules ≡ true
    → list_any (bytes_eq name) (map (λ rule. rule.name) rules) ≡ true
among [] name value h = h
among (rule ∷ rules) name value h =
    elim (or_cases (bytes_eq name rule.name && is_value rule.kind value) (list_any (λ r. bytes_eq name r.name && is_value r.kind value) rules) h) [
      | inl here ↦ or_left _ _ (and_parts (bytes_eq name rule.name) (is_value rule.kind value) here).0
      | inr there ↦ or_right (bytes_eq name rule.name) _ (among rules name value there)
    ]

known-name : (rules : List OptionRule) (option : List ℕ) → is_option_of rules option ≡ true
    → list_any (bytes_eq (option_name option)) (map (λ rule. rule.name) rules) ≡ true
known-name rules option known = among rules (option_name option) (option_value option) (and_parts (list_any is_equals option) _ known).1

known-names : (rules : List OptionRule) (options : List (List ℕ)) → list_all (is_option_of rules) options ≡ true
    → (name : List ℕ) → list_any (bytes_eq name) (names_of options) ≡ true → list_any (bytes_eq name) (map (λ rule. rule.name) rules) ≡ true
known-names rules [] known name h = absurd (cc)
known-names rules (option ∷ options) known name h =
    let parts = and_parts (is_option_of rules option) (list_all (is_option_of rules) options) known in
    elim (or_cases (bytes_eq name (option_name option)) (list_any (bytes_eq name) (names_of options)) h) [
      | inl here ↦
          let P : List ℕ → Type 0 = λ n. list_any (bytes_eq n) (map (λ rule. rule.name) rules) ≡ true in
          subst P (sym ((bytes_eq-Decides name (option_name option)).0 here)) (known-name rules option parts.0)
      | inr there ↦ known-names rules options parts.1 name there
    ]

-- There are no more good options than rules.
pub length-IsGood : (rules : List OptionRule) (options : List (List ℕ)) → IsGood rules options → length options ≤ length rules
length-IsGood rules options good =
    let short : length (names_of options) ≤ length (map (λ rule. rule.name) rules) =
    length-le_from_is_member nat_list_eq_equiv (names_of options) (map (λ rule. rule.name) rules) good.once (known-names rules options good.known) in
    omega (arith, length-map options option_name, length-map rules (λ rule. rule.name))

IsGood-push : (rules : List OptionRule) (options : List (List ℕ)) (option : List ℕ) → IsGood rules options
    → is_option_of rules option ≡ true → has_option options (option_name option) ≡ false → IsGood rules (options ++ option ∷ [])
IsGood-push rules options option good known new = record {
  known = list_all-append (is_option_of rules) options (option ∷ []) ∙ and_from _ _ good.known (and_from _ _ known refl);
  once =
      let P : List (List ℕ) → Type 0 = λ names. IsDistinct bytes_eq names in
      subst P (sym (map-append option_name options (option ∷ [])))
      (IsDistinct-push nat_list_eq_equiv (names_of options) (option_name option) good.once (sym (has-name options (option_name option)) ∙ new));
}

-- whether an option is bad, by those before it
bad-at : (rules : List OptionRule) (before : List (List ℕ)) (option : List ℕ) (after : List (List ℕ))
    → is_bad_option rules (before ++ option ∷ after) (length before) ≡ (not (is_option_of rules option) || has_option before (option_name option))
bad-at rules before option after =
    let P : List ℕ → List (List ℕ) → Bool = λ o earlier. not (is_option_of rules o) || has_option earlier (option_name o) in
    ap (λ o. P o (take (length before) (before ++ option ∷ after))) (get_or-append_seam before option after [])
    ∙ ap (P option) (take-append_seam before (option ∷ after))

one-more : (before : List (List ℕ)) (option : List ℕ) → length (before ++ option ∷ []) ≡ length before + 1
one-more [] option = refl
one-more (o ∷ before) option = omega (arith, one-more before option)

-- The first bad option after good ones has a place of at most the number of rules. Without a bad option all options are good.
scanned : (rules : List OptionRule) (before after : List (List ℕ)) → IsGood rules before
    → MatchOption (find (is_bad_option rules (before ++ after)) (range_with_len (length before) (length after)))
    (IsGood rules (before ++ after)) (λ i. i ≤ length rules)
scanned rules before [] good = rw append-nil good
scanned rules before (option ∷ after) good =
    go (is_bad_option rules (before ++ option ∷ after) (length before)) refl (λ longer. scanned rules (before ++ option ∷ []) after longer)
  where
    later : Option ℕ
    later = find (is_bad_option rules (before ++ option ∷ after)) (range_with_len (length before + 1) (length after))

    Answers : Option ℕ → Type 0
    Answers found = MatchOption found (IsGood rules (before ++ option ∷ after)) (λ i. i ≤ length rules)

    Onward : List (List ℕ) → ℕ → Type 0
    Onward options n = MatchOption (find (is_bad_option rules options) (range_with_len n (length after))) (IsGood rules options) (λ i. i ≤ length rules)

    go : (b : Bool) → is_bad_option rules (before ++ option ∷ after) (length before) ≡ b
        → (IsGood rules (before ++ option ∷ []) → Onward ((before ++ option ∷ []) ++ after) (length (before ++ option ∷ [])))
        → Answers (cond b (Some (length before)) later)
    go true e onward = length-IsGood rules before good
    go false e onward =
        let parts = or_parts (not (is_option_of rules option)) (has_option before (option_name option)) (sym (bad-at rules before option after) ∙ e) in
        let longer = IsGood-push rules before option good (not-false _ parts.0) parts.1 in
        subst (Onward (before ++ option ∷ after)) (one-more before option)
        (subst (λ options. Onward options (length (before ++ option ∷ []))) (append_assoc before (option ∷ []) after) (onward longer))

pub good-or-early : (rules : List OptionRule) (options : List (List ℕ))
    → MatchOption (first_bad_option rules options) (IsGood rules options) (λ i. i ≤ length rules)
unfolding IsDistinct
good-or-early rules options = scanned rules [] options (record { known = refl; once = tt })

pub good-of-none : (rules : List OptionRule) (options : List (List ℕ)) → first_bad_option rules options ≡ None → IsGood rules options
good-of-none rules options h =
    let P : Option ℕ → Type 0 = λ bad. MatchOption bad (IsGood rules options) (λ i. i ≤ length rules) in
    subst P h (good-or-early rules options)

pub early-of-some : (rules : List OptionRule) (options : List (List ℕ)) (place : ℕ) → first_bad_option rules options ≡ Some place
    → place ≤ length rules
early-of-some rules options place h =
    let P : Option ℕ → Type 0 = λ bad. MatchOption bad (IsGood rules options) (λ i. i ≤ length rules) in
    subst P h (good-or-early rules options)

apart : (P : List ℕ → Type 0) (before : List (List ℕ)) (option : List ℕ) (after : List (List ℕ))
    → AllByRecursion P (names_of (before ++ option ∷ after)) → P (option_name option)
apart P [] option after all = all.0
apart P (o ∷ before) option after all = apart P before option after all.1

-- where all names differ, none of those before is an option's
new-name : (before : List (List ℕ)) (option : List ℕ) (after : List (List ℕ)) → IsDistinct bytes_eq (names_of (before ++ option ∷ after))
    → has_option before (option_name option) ≡ false
new-name [] option after once = refl
new-name (o ∷ before) option after once =
    let first = IsDistinct-head bytes_eq (option_name o) (names_of (before ++ option ∷ after)) once in
    or_from _ _
    (nat_list_eq_equiv.symm (option_name option) (option_name o) ∙ apart (λ name. bytes_eq (option_name o) name ≡ false) before option after first)
    (new-name before option after (IsDistinct-tail bytes_eq (option_name o) (names_of (before ++ option ∷ after)) once))

-- of good options none is bad
none-bad : (rules : List OptionRule) (before after : List (List ℕ)) → IsGood rules (before ++ after)
    → find (is_bad_option rules (before ++ after)) (range_with_len (length before) (length after)) ≡ None
none-bad rules before [] good = refl
none-bad rules before (option ∷ after) good =
    let known = and_parts (list_all (is_option_of rules) before) (list_all (is_option_of rules) (option ∷ after))
    (sym (list_all-append (is_option_of rules) before (option ∷ after)) ∙ good.known) in
    let this = and_parts (is_option_of rules option) (list_all (is_option_of rules) after) known.1 in
    let not_bad : is_bad_option rules (before ++ option ∷ after) (length before) ≡ false =
    bad-at rules before option after ∙ or_from _ _ (not_from_true _ this.0) (new-name before option after good.once) in
    let whole = append_assoc before (option ∷ []) after in
    let P : List (List ℕ) → ℕ → Type 0 = λ options n. find (is_bad_option rules options) (range_with_len n (length after)) ≡ None in
    let later : P (before ++ option ∷ after) (length before + 1) =
    subst (P (before ++ option ∷ after)) (one-more before option)
    (subst (λ options. P options (length (before ++ option ∷ []))) whole
    (none-bad rules (before ++ option ∷ []) after (subst (IsGood rules) (sym whole) good))) in
    ap (λ b. cond b (Some (length before)) (find (is_bad_option rules (before ++ option ∷ after)) (range_with_len (length before + 1) (length after)))) not_bad ∙ later

pub none-bad-of-good : (rules : List OptionRule) (options : List (List ℕ)) → IsGood rules options → first_bad_option rules options ≡ None
none-bad-of-good rules options good = none-bad rules [] options good

pub early-place : (rules : List OptionRule) (options : List (List ℕ)) (word : ℕ)
    → usage_of_options rules options (first_bad_option rules options) ≡ Some word → word ≤ length rules + 1
early-place rules options word h = go (first_bad_option rules options) (has_required rules options) refl (good-or-early rules options) h
  where
    go : (bad : Option ℕ) (required : Bool) → has_required rules options ≡ required
        → MatchOption bad (IsGood rules options) (λ i. i ≤ length rules)
        → usage_of_options rules options bad ≡ Some word → word ≤ length rules + 1
    go None true e good h =
        absurd (let none : None ≡ Some word = ap (λ b. if b then None else Some (length options + 1)) (sym e) ∙ h in cc)
    go None false e good h =
        let place : Some (length options + 1) ≡ Some word = ap (λ b. if b then None else Some (length options + 1)) (sym e) ∙ h in
        let same : length options + 1 ≡ word = cc in
        omega (arith, length-IsGood rules options good)
    go (Some i) required e early h =
        let same : i + 1 ≡ word = cc in
        omega arith

pub early-word : (found : Option CommandRule) (options : List (List ℕ)) (rule : CommandRule) (word : ℕ)
    → found ≡ Some rule → usage_of_rule found options ≡ Some word → word ≤ length rule.options + 1
early-word found options rule word is h = early-place rule.options options word (ap (λ f. usage_of_rule f options) (sym is) ∙ h)
