-- The subjects of the laws of words: reordered words, words with a bad one, and understood words.
use Rattle.std.specs.Prelude.{◌≡◌, ℕ, Bool, ◌&&◌, List, ◌∷◌, Some, None, bytes_eq}
use Rattle.std.specs.List.{list_any}
use Rattle.std.specs.List.Sorted.{IsPermutation}
use Rattle.far_model.specs.Words.{CommandRule, is_value, rule_named, usage_of}

-- A command that is understood with its options, and the same options in another order.
pub record ReorderedWords : Type 0 where
  pub table : List CommandRule
  pub command : List ℕ
  pub options : List (List ℕ)
  pub others : List (List ℕ)
  pub reordered : IsPermutation options others
  pub understood : usage_of table (command ∷ options) ≡ None

-- A command by its rule in a table, options that are not understood, and the place of the first bad word.
pub record RefusedWords : Type 0 where
  pub table : List CommandRule
  pub command : List ℕ
  pub options : List (List ℕ)
  pub rule : CommandRule
  pub bad_word : ℕ
  pub named : rule_named table command ≡ Some rule
  pub refused : usage_of table (command ∷ options) ≡ Some bad_word

-- A command by its rule in a table that is understood with its options.
pub record UnderstoodWords : Type 0 where
  pub table : List CommandRule
  pub command : List ℕ
  pub options : List (List ℕ)
  pub rule : CommandRule
  pub named : rule_named table command ≡ Some rule
  pub understood : usage_of table (command ∷ options) ≡ None

-- An option of the rule has this name and allows this value.
abbrev pub allows : CommandRule → List ℕ → List ℕ → Bool
allows rule name value = list_any (λ option. bytes_eq name option.name && is_value option.kind value) rule.options
