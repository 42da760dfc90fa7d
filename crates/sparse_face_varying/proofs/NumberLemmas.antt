-- The numbers of the faces that pass a test, face by face.
use Rattle.std.proofs.Common.{◌≡◌, ℕ, zero, suc, ◌+◌, ◌<◌, ◌≤◌, Bool, true, false, List, [], ◌∷◌, ◌++◌, length, map, get_or, take, arith, refl, ap, sym, ◌∙◌, if◌then◌else◌, Result, Ok, Err, Vec, Global}
use Rattle.std.specs.List.{filter, range_with_len}
use Rattle.std.specs.Result.{IfOk}
use Rattle.std.proofs.lemmas.List.{map-append, append-nil, map-id}
use Rattle.std.proofs.lemmas.List.Elements.{filter-append}
use Rattle.std.proofs.lemmas.List.FromFn.{fill_by_all, map-range_with_len_more}
use Rattle.subdiv_model.specs.Level.{Level}
use Rattle.subdiv_model.specs.Feature.{FaceFacts}
use Rattle.subdiv_model.specs.Sparse.{FacePredicate, selected}
use Rattle.subdiv_model.specs.SparseText.{WrittenFace, WrittenLevel, LeafFace, written_level}
use Rattle.subdiv_model.specs.SparseTexture.{selected_to}
use Rattle.part_laws.specs.Parts.{face_in}
use Rattle.part_laws.proofs.ListLemmas.{filter-mapped, map-twice, places-of-range}
use Rattle.part_laws.proofs.TermLemmas.{all-true}
use Rattle.sparse_laws.specs.Selected.{is_selected_in}
use Rattle.sparse_laws.proofs.SelectedLemmas.{selected-same}
use Rattle.sparse_level.specs.View.{SparseTopology, SparseChild, level_of}
use Rattle.sparse_level.specs.Places.{marked}
use Rattle.sparse_refiner.specs.Refined.{SparseOf}
use Rattle.sparse_level.specs.Faces.{face_at}
use Rattle.sparse_level.specs.declared.values.SparseValues.{SparseValues}
use Rattle.sparse_texture_laws.specs.Selection.{is_selected_kind, selected_numbers}
use Rattle.sparse_texture_laws.proofs.PredicateLemmas.{written-selected}
use Rattle.sparse_face_varying.specs.Chosen.{AreMarkedBy, AreWritten}

-- the values of those of the first faces that pass
abbrev pub picked : (ℕ → Bool) → (ℕ → ℕ) → ℕ → List ℕ
picked test read n = map read (filter test (range_with_len 0 n))

range-more : (n : ℕ) → range_with_len 0 (n + 1) ≡ range_with_len 0 n ++ n ∷ []
range-more n = sym (map-id (range_with_len 0 (n + 1))) ∙ map-range_with_len_more (λ k. k) 0 n n (omega arith) ∙ ap (λ l. l ++ n ∷ []) (map-id (range_with_len 0 n))

-- one more face
pub picked-more : (test : ℕ → Bool) (read : ℕ → ℕ) (n : ℕ) (before after : List ℕ) (put : Bool) (number : ℕ) → before ≡ picked test read n → after ≡ (if put then before ++ number ∷ [] else before) → put ≡ test n → number ≡ read n → after ≡ picked test read (n + 1)
picked-more test read n before after put number so is p e = is ∙ ap (λ b. if b then before ++ number ∷ [] else before) p ∙ go (test n) refl ∙ sym (ap (λ l. map read (filter test l)) (range-more n) ∙ ap (map read) (filter-append test (range_with_len 0 n) (n ∷ [])) ∙ map-append read (filter test (range_with_len 0 n)) (filter test (n ∷ [])))
  where
    go : (b : Bool) → test n ≡ b → (if test n then before ++ number ∷ [] else before) ≡ map read (filter test (range_with_len 0 n)) ++ map read (filter test (n ∷ []))
    go true on = rw (on) (ap (λ l. l ++ number ∷ []) so ∙ ap (λ m. map read (filter test (range_with_len 0 n)) ++ m ∷ []) e)
    go false off = rw (off) (so ∙ sym (append-nil (map read (filter test (range_with_len 0 n)))))

-- the places of the marks that are set
pub marked-picked : (numbers : List ℕ) (marks : List Bool) → picked (λ f. get_or marks f false) (face_in numbers) (length marks) ≡ map (face_in numbers) (marked marks)
marked-picked numbers marks =
    sym (ap (map (face_in numbers)) (ap marked (fill_by_all (λ i. get_or marks i false) marks (length marks) false refl (λ k h. refl))
    ∙ places-of-range (λ i. get_or marks i false) (λ mark. mark) 0 (length marks)))

-- the marks of a step are those of the selected faces
pub marks-selected : (test : FaceFacts → Bool) (t : SparseTopology) (step : SparseChild) (numbers : List ℕ) (of : SparseOf test t) → AreMarkedBy test t step → numbers ≡ map (face_in t.numbers) (marked step.selected) → numbers ≡ selected of.base of.predicate t.depth
marks-selected test t step numbers of are is =
    is ∙ ap (λ marks. map (face_in t.numbers) (marked marks)) are
    ∙ ap (map (face_in t.numbers)) (places-of-range (is_selected_in test (level_of t)) (λ mark. mark) 0 (length t.topology.level.polygons))
    ∙ selected-same (record { base = of.base; predicate = of.predicate; sparse = level_of t; over = of.over; is = of.is }) (record { test = test; agrees = of.agrees })

-- the numbers of the selected faces of a written level
abbrev pub face_test : WrittenLevel → ℕ → Bool
face_test level f = is_selected_kind (face_at level f).kind

abbrev pub face_number : WrittenLevel → ℕ → ℕ
face_number level f = (face_at level f).number

pub written-picked : (level : WrittenLevel) → picked (face_test level) (face_number level) (length level.faces) ≡ selected_numbers level
written-picked level =
    let all = range_with_len 0 (length level.faces) in
    let read = face_at level in
    let leaf : WrittenFace = record { kind = LeafFace; number = 0; corners = [] } in
    sym (ap (λ (faces : List WrittenFace). map (λ (face : WrittenFace). face.number) (filter (λ (face : WrittenFace). is_selected_kind face.kind) faces)) (fill_by_all read level.faces (length level.faces) leaf refl (λ k h. refl))
    ∙ ap (map (λ (face : WrittenFace). face.number)) (filter-mapped (λ f. true) read (face_test level) (λ (face : WrittenFace). is_selected_kind face.kind) (λ f h. refl) all (all-true all))
    ∙ map-twice read (λ (face : WrittenFace). face.number) (filter (face_test level) all))

-- the selected faces of each level
abbrev pub each_of : {P : Type 0} → List (SparseValues P) → List (List ℕ)
each_of levels = map (λ level. selected_numbers level.faces) levels

from-level : {P : Type 0} (base : Level) (predicate : FacePredicate) (k n : ℕ) (levels : List (SparseValues P)) → n ≤ length levels → ((j : ℕ) (d : SparseValues P) → j < n → (get_or levels j d).faces ≡ written_level base predicate (k + j)) → each_of (take n levels) ≡ map (selected base predicate) (range_with_len k n)
from-level base predicate k zero levels h are = refl
from-level base predicate k (suc n) [] h are = absurd (omega arith)
from-level base predicate k (suc n) (level ∷ levels) h are =
    let first : selected_numbers level.faces ≡ selected base predicate k =
    ap selected_numbers (are 0 level (omega arith)) ∙ written-selected base predicate (k + 0) ∙ ap (selected base predicate) (let e : k + 0 ≡ k = omega arith in e) in
    ap (λ ns. ns ∷ each_of (take n levels)) first
    ∙ ap (λ l. selected base predicate k ∷ l) (from-level base predicate (k + 1) n levels (omega arith) (λ j d less. are (suc j) d (omega arith) ∙ ap (written_level base predicate) (let e : k + suc j ≡ k + 1 + j = omega arith in e)))

pub levels-selected : {P : Type 0} (levels : List (SparseValues P)) (base : Level) (predicate : FacePredicate) (depth : ℕ) → length levels ≡ depth + 1 → AreWritten levels base predicate depth → each_of (take depth levels) ≡ selected_to base predicate depth
levels-selected levels base predicate depth long are =
    from-level base predicate 0 depth levels (omega (arith, long)) (λ j d less. are j d (omega (arith, less)) ∙ ap (written_level base predicate) (let e : j ≡ 0 + j = omega arith in e))

-- the same for a result
pub levels-found : {P E : Type 0} (levels : List (SparseValues P)) (base : Level) (predicate : FacePredicate) (depth : ℕ) → length levels ≡ depth + 1 → AreWritten levels base predicate depth → (r : Result (Vec (Vec ℕ Global) Global) E) → IfOk r (λ numbers. map (λ n. n.items) numbers.items ≡ each_of (take depth levels)) → IfOk r (λ numbers. map (λ n. n.items) numbers.items ≡ selected_to base predicate depth)
levels-found levels base predicate depth long are (Ok numbers) h = h ∙ levels-selected levels base predicate depth long are
levels-found levels base predicate depth long are (Err fault) h = tt
