-- A selection is the predicate of a test of faces by their numbers, and is what the written levels select.
use Rattle.std.proofs.Common.{◌≡◌, ℕ, zero, suc, ◌+◌, ◌<◌, Bool, true, false, not, ◌&&◌, List, [], length, map, get_or, arith, refl, ap, sym, ◌∙◌, subst, if◌then◌else◌}
use Rattle.std.specs.List.{filter, range_with_len}
use Rattle.std.proofs.lemmas.Bool.{and_parts}
use Rattle.std.proofs.lemmas.List.{ext_get_or, map-id}
use Rattle.std.proofs.lemmas.List.FromFn.{length-map-range_with_len, get_or-map-range_with_len}
use Rattle.subdiv_model.specs.Polygons.{is_among}
use Rattle.subdiv_model.specs.Level.{Level, is_hole}
use Rattle.subdiv_model.specs.Child.{refined_level}
use Rattle.subdiv_model.specs.Sparse.{FacePredicate, meets, corners_of, is_on, selected, inner, present, predicate_of, predicate_to}
use Rattle.subdiv_model.specs.SparseText.{HoleFace, OuterFace, SelectedFace, LeafFace, kind_of_face, written_face, written_level}
use Rattle.level_laws.proofs.FaceLemmas.{child_polygons-length}
use Rattle.part_laws.proofs.AscendingLemmas.{Ascends, kept-of-all}
use Rattle.part_laws.proofs.ListLemmas.{map-twice, filter-mapped}
use Rattle.part_laws.proofs.TermLemmas.{all-true}
use Rattle.sparse_laws.proofs.InnerLemmas.{inner-present, places-ascend, range-ascends}
use Rattle.sparse_laws.proofs.NumberLemmas.{corners-length}
use Rattle.sparse_laws.proofs.SelectedLemmas.{filter-agree, selected-chosen}
use Rattle.sparse_texture_laws.specs.Selection.{IsSelection, is_chosen_in, is_selected_kind, selected_numbers}
use Rattle.sparse_texture_laws.proofs.SelectionLemmas.{kept-among, selected-among}

-- the test by the numbers of all levels selects these numbers at each level
pub selection-agrees : (base : Level) (depth : ℕ) (numbers : List (List ℕ)) → IsSelection base depth numbers → (k : ℕ) → k < depth → get_or numbers k [] ≡ predicate_of (is_chosen_in numbers) base k
selection-agrees base depth numbers is k h = is.each k h

-- the selection is the predicate of the test
pub selection-predicate : (base : Level) (depth : ℕ) (numbers : List (List ℕ)) → IsSelection base depth numbers → predicate_to (is_chosen_in numbers) base depth ≡ numbers
selection-predicate base depth numbers is =
    let of : ℕ → List ℕ = predicate_of (is_chosen_in numbers) base in
    let long = length-map-range_with_len of 0 depth in
    ext_get_or [] (map of (range_with_len 0 depth)) numbers (long ∙ sym is.levels) (λ k less.
    let below : k < depth = omega (arith, less, long) in
    get_or-map-range_with_len of 0 depth k k [] below (omega arith) ∙ sym (selection-agrees base depth numbers is k below))

kind-selected : (a b c : Bool) → (c ≡ true → b ≡ true) → is_selected_kind (if a then HoleFace else if not b then OuterFace else if c then SelectedFace else LeafFace) ≡ (c && not a)
kind-selected true b true h = refl
kind-selected true b false h = refl
kind-selected false true true h = refl
kind-selected false true false h = refl
kind-selected false false true h = absurd (let e = h refl in cc)
kind-selected false false false h = refl

module _ (base : Level) (predicate : FacePredicate) (k : ℕ) where
  selected-inner : (n : ℕ) → is_among (selected base predicate k) n ≡ true → is_among (inner base predicate k) n ≡ true
  selected-inner n h = kept-among (λ face. meets predicate k face && not (is_hole (refined_level base k) face)) (inner base predicate k) n (ap (λ ns. is_among ns n) (sym (selected-chosen base predicate k)) ∙ h)

  kind-at : (n : ℕ) → is_selected_kind (kind_of_face base predicate k n) ≡ (is_among (selected base predicate k) n && not (is_hole (refined_level base k) n))
  kind-at n = kind-selected (is_hole (refined_level base k) n) (is_among (inner base predicate k) n) (is_among (selected base predicate k) n) (selected-inner n)

-- present faces ascend
present-ascends : (base : Level) (predicate : FacePredicate) (k : ℕ) → Ascends 0 (0 + length (refined_level base k).polygons) (present base predicate k)
present-ascends base predicate zero = range-ascends 0 (length base.polygons)
present-ascends base predicate (suc k) =
    let level = refined_level base k in
    subst (λ n. Ascends 0 (0 + n) (present base predicate (suc k))) (corners-length level.polygons ∙ sym (child_polygons-length level.point_count level.polygons))
    (places-ascend (is_on level.polygons (selected base predicate k)) 0 (corners_of level.polygons))

-- the selected faces of a written level are the selected faces
pub written-selected : (base : Level) (predicate : FacePredicate) (k : ℕ) → selected_numbers (written_level base predicate k) ≡ selected base predicate k
written-selected base predicate k =
    let level = refined_level base k in
    let some = selected base predicate k in
    let faces = present base predicate k in
    let test : ℕ → Bool = λ n. is_among some n && not (is_hole level n) in
    let kinds : ℕ → Bool = λ n. is_selected_kind (kind_of_face base predicate k n) in
    ap (map (λ face. face.number)) (filter-mapped (λ n. true) (written_face base predicate k) kinds (λ face. is_selected_kind face.kind) (λ n h. refl) faces (all-true faces))
    ∙ map-twice (written_face base predicate k) (λ face. face.number) (filter kinds faces)
    ∙ map-id (filter kinds faces)
    ∙ filter-agree (λ n. true) kinds test (λ n h. kind-at base predicate k n) faces (all-true faces)
    ∙ sym (kept-of-all test 0 (length level.polygons) faces (present-ascends base predicate k) (λ i low high on.
    inner-present base predicate k i (selected-inner base predicate k i (and_parts (is_among some i) (not (is_hole level i)) on).0)))
    ∙ sym (selected-among base predicate k)
