-- The sharpnesses that the lines of a text name are well formed.
use Rattle.std.proofs.Common.{◌≡◌, ℕ, zero, suc, Bool, true, nat_eq, List, [], ◌∷◌, zip, length, get_or, replicate, refl, ◌∙◌}
use Rattle.std.specs.Prelude.{codes}
use Rattle.std.specs.List.{list_all, flat_map}
use Rattle.std.proofs.lemmas.Bool.{and_from, and_parts, cond_both}
use Rattle.std.proofs.lemmas.List.Folds.{list_all-append}
use Rattle.subdiv_model.specs.Numeral.{numeral_amount}
use Rattle.subdiv_model.specs.ObjTag.{tag_indices, tag_numerals, tag_sharpnesses, for_each, chain_pairs, tag_creases, tag_corners}
use Rattle.subdiv_model.specs.ReadObj.{tags_named}
use Rattle.subdiv_model.specs.Sharpness.{Sharpness, Smooth, is_proper_sharpness, sharpness_of_fraction}
use Rattle.sharpness_laws.proofs.ProperLemmas.{proper-of, all-get_or, all-mapped}

abbrev Words : Type 0
Words = List (List ℕ)

proper-numerals : (words : Words) → list_all is_proper_sharpness (tag_sharpnesses words) ≡ true
proper-numerals words =
    let amount : List ℕ → ℕ × ℕ = numeral_amount in
    all-mapped is_proper_sharpness (λ word. sharpness_of_fraction (amount word)) (λ word. proper-of (amount word).0 (amount word).1) (tag_numerals words)

proper-replicate : (n : ℕ) (s : Sharpness) → is_proper_sharpness s ≡ true → list_all is_proper_sharpness (replicate n s) ≡ true
proper-replicate zero s h = refl
proper-replicate (suc n) s h = and_from _ _ h (proper-replicate n s h)

proper-each : (count : ℕ) (ss : List Sharpness) → list_all is_proper_sharpness ss ≡ true → list_all is_proper_sharpness (for_each count ss) ≡ true
proper-each count ss h =
    cond_both (nat_eq (length ss) 1) (replicate count (get_or ss 0 Smooth)) ss (λ xs. list_all is_proper_sharpness xs ≡ true)
    (λ _. proper-replicate count (get_or ss 0 Smooth) (all-get_or is_proper_sharpness ss 0 Smooth h refl)) (λ _. h)

proper-zip : {X : Type 0} (xs : List X) (ss : List Sharpness) → list_all is_proper_sharpness ss ≡ true
    → list_all (λ (tag : X × Sharpness). is_proper_sharpness tag.1) (zip xs ss) ≡ true
proper-zip [] ss h = refl
proper-zip (x ∷ xs) [] h = refl
proper-zip (x ∷ xs) (s ∷ ss) h =
    let parts = and_parts (is_proper_sharpness s) (list_all is_proper_sharpness ss) h in and_from _ _ parts.0 (proper-zip xs ss parts.1)

-- a tag's own, each at one of its places
proper-tags : {X : Type 0} (words : Words) (places : List X)
    → list_all (λ (tag : X × Sharpness). is_proper_sharpness tag.1) (zip places (for_each (length places) (tag_sharpnesses words))) ≡ true
proper-tags words places =
    proper-zip places (for_each (length places) (tag_sharpnesses words)) (proper-each (length places) (tag_sharpnesses words) (proper-numerals words))

-- what holds of all that is made of each holds of all
all-made : {X Y : Type 0} (test : Y → Bool) (make : X → List Y) → ((x : X) → list_all test (make x) ≡ true) → (xs : List X)
    → list_all test (flat_map make xs) ≡ true
all-made test make each [] = refl
all-made test make each (x ∷ xs) = list_all-append test (make x) (flat_map make xs) ∙ and_from _ _ (each x) (all-made test make each xs)

pub creases-proper : (lines : List Words) → list_all (λ crease. is_proper_sharpness crease.1) (flat_map tag_creases (tags_named (codes "crease") lines)) ≡ true
creases-proper lines =
    all-made (λ crease. is_proper_sharpness crease.1) tag_creases (λ words. proper-tags words (chain_pairs (tag_indices words)))
    (tags_named (codes "crease") lines)

pub corners-proper : (lines : List Words) → list_all (λ tag. is_proper_sharpness tag.1) (flat_map tag_corners (tags_named (codes "corner") lines)) ≡ true
corners-proper lines =
    all-made (λ tag. is_proper_sharpness tag.1) tag_corners (λ words. proper-tags words (tag_indices words)) (tags_named (codes "corner") lines)
