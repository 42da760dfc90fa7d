-- The counts of a tag, as the reader keeps them.
use Rattle.std.specs.Prelude.{ℕ, ◌≡◌, ◌^◌, ◌<◌, List, [], get_or, Option, true, false, MatchOption}
use Rattle.subdiv_model.specs.Digits.{is_digits, number_of_digits}
use Rattle.subdiv_model.specs.ObjTag.{are_counts}
use Rattle.obj_tags.specs.declared.tag_counts.TagCounts.{TagCounts}

-- The number that one to nine digits spell.
abbrev pub IsCount : Option ℕ → List ℕ → Type 0
IsCount read word = MatchOption read (is_digits 9 word ≡ false) (λ n. (is_digits 9 word ≡ true) × (n ≡ number_of_digits word))

-- The counts that the parts spell.
pub record AreCountsOf (counts : TagCounts) (parts : List (List ℕ)) : Type 0 where
  pub integers : counts.integers ≡ number_of_digits (get_or parts 0 [])
  pub numerals : counts.numerals ≡ number_of_digits (get_or parts 1 [])
  pub strings : counts.strings ≡ number_of_digits (get_or parts 2 [])

-- Each count has at most nine digits.
pub record AreShort (counts : TagCounts) : Type 0 where
  pub integers : counts.integers < 10 ^ 9
  pub numerals : counts.numerals < 10 ^ 9
  pub strings : counts.strings < 10 ^ 9

-- The counts of these parts, if they are the parts of counts.
abbrev pub IsReadAs : Option TagCounts → List (List ℕ) → Type 0
IsReadAs read parts =
    MatchOption read (are_counts parts ≡ false) (λ counts. (are_counts parts ≡ true) × AreCountsOf counts parts × AreShort counts)
