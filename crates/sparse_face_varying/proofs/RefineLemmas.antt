-- A rule by numbers answers its test, and the predicate of that test is the numbers.
use Rattle.std.proofs.Common.{◌≡◌, ℕ, ◌+◌, Bool, ◌&&◌, not, List, [], length, map, get_or, arith, ap, sym, ◌∙◌, subst, Option, Some, option_map, Vec, Global}
use Rattle.std.specs.Borrow.{Bor}
use Rattle.std.specs.List.{range_with_len}
use Rattle.std.specs.List.Sorted.{IsStrictlyIncreasing}
use Rattle.std.proofs.lemmas.List.{get_or_default}
use Rattle.std.proofs.lemmas.List.Kept.{IsStrictlyIncreasing-filter}
use Rattle.subdiv_model.specs.Polygons.{is_among}
use Rattle.subdiv_model.specs.Level.{Level, is_hole}
use Rattle.subdiv_model.specs.Child.{refined_level}
use Rattle.subdiv_model.specs.Sparse.{predicate_to}
use Rattle.part_laws.proofs.PlaceLemmas.{increasing}
use Rattle.sparse_laws.proofs.InnerLemmas.{range-ascends}
use Rattle.sparse_texture_laws.specs.Selection.{IsSelection, is_chosen}
use Rattle.sparse_texture_laws.proofs.PredicateLemmas.{selection-predicate}
use Rattle.sparse_face_varying.specs.Chosen.{AreAscending, chosen_by, chosen_in}
use Rattle.sparse_face_varying.specs.declared.chosen.Chosen.{Chosen}
use Rattle.sparse_face_varying.specs.declared.chosen.ChosenLevels.{ChosenLevels}

range-up : (n : ℕ) → IsStrictlyIncreasing (range_with_len 0 n)
range-up n = increasing 0 (0 + n) (range_with_len 0 n) (range-ascends 0 n)

-- the numbers of a selection ascend
pub selection-ascends : (base : Level) (depth : ℕ) (numbers : List (List ℕ)) → IsSelection base depth numbers → AreAscending numbers
selection-ascends base depth numbers is k d h =
    let level = refined_level base k in
    let at = is.each k (omega (arith, h, is.levels)) in
    let test : ℕ → Bool = λ face. is_among (get_or numbers k []) face && not (is_hole level face) in
    let n = length level.polygons in
    subst IsStrictlyIncreasing (sym (get_or_default numbers k d [] h ∙ at)) (IsStrictlyIncreasing-filter test (range_with_len 0 n) (range-up n))

-- the test of a rule that keeps these numbers
pub rule-test : {F : Type 0} (rule : F × Option Chosen) (select : F) (numbers : Bor (List ℕ)) → rule ≡ (select, Some (record { numbers = numbers })) → chosen_by (option_map (λ (test : Chosen). test.numbers.now) rule.1) ≡ is_chosen numbers.now
rule-test {F} rule select numbers e = ap (λ (kept : F × Option Chosen). chosen_by (option_map (λ (test : Chosen). test.numbers.now) kept.1)) e

-- the predicate of the test of a rule that keeps these numbers of levels
abbrev pub numbers_of : ChosenLevels → List (List ℕ)
numbers_of test = map (λ n. n.items) test.levels.now

pub rule-predicate : {F : Type 0} (rule : F × Option ChosenLevels) (select : F) (levels : Bor (List (Vec ℕ Global))) (base : Level) (depth : ℕ) → rule ≡ (select, Some (record { levels = levels })) → IsSelection base depth (map (λ n. n.items) levels.now) → predicate_to (chosen_in (option_map numbers_of rule.1)) base depth ≡ map (λ n. n.items) levels.now
rule-predicate {F} rule select levels base depth e is =
    ap (λ (kept : F × Option ChosenLevels). predicate_to (chosen_in (option_map numbers_of kept.1)) base depth) e
    ∙ selection-predicate base depth (map (λ n. n.items) levels.now) is
