-- The faces that are selected by a predicate are a selection, of the level itself and of each level with the same faces.
use Rattle.std.proofs.Common.{◌≡◌, ℕ, zero, suc, ◌<◌, ◌≤◌, Bool, true, false, not, ◌&&◌, List, [], length, get_or, arith, refl, ap, sym, ◌∙◌}
use Rattle.std.specs.List.{filter, range_with_len}
use Rattle.std.proofs.lemmas.Bool.{and_parts}
use Rattle.std.proofs.lemmas.List.FromFn.{length-map-range_with_len, get_or-map-range_with_len}
use Rattle.subdiv_model.specs.Polygons.{is_among}
use Rattle.subdiv_model.specs.Level.{Level, is_hole}
use Rattle.subdiv_model.specs.Child.{refined_level}
use Rattle.subdiv_model.specs.Sparse.{FacePredicate, meets, chosen, selected, inner, children_of}
use Rattle.subdiv_model.specs.SparseTexture.{selected_to}
use Rattle.part_laws.proofs.AscendingLemmas.{kept-of-all}
use Rattle.sparse_laws.proofs.FactLemmas.{all-own}
use Rattle.sparse_laws.proofs.InnerLemmas.{inner-ascends}
use Rattle.sparse_laws.proofs.SelectedLemmas.{among-kept, kept-passes, filter-agree, selected-chosen}
use Rattle.sparse_texture_laws.specs.Selection.{faces_among, IsSelection}
use Rattle.sparse_texture_laws.specs.Cut.{HaveSameFaces}
use Rattle.sparse_texture_laws.proofs.FaceLemmas.{children-same, count-same, after-same}

-- a kept number is listed
pub kept-among : (test : ℕ → Bool) (ns : List ℕ) (n : ℕ) → is_among (filter test ns) n ≡ true → is_among ns n ≡ true
kept-among test ns n h = (and_parts (test n) (is_among ns n) (sym (among-kept test ns n) ∙ h)).1

-- what was chosen is chosen again by its numbers
again : (a b c : Bool) → a ≡ (b && c) → (a && c) ≡ (b && c)
again a true true e = rw e refl
again a true false e = rw e refl
again a false true e = rw e refl
again a false false e = rw e refl

chosen-again : (level : Level) (predicate : FacePredicate) (depth : ℕ) (faces : List ℕ) → filter (λ f. is_among (chosen level predicate depth faces) f && not (is_hole level f)) faces ≡ chosen level predicate depth faces
chosen-again level predicate depth faces =
    let test : ℕ → Bool = λ f. meets predicate depth f && not (is_hole level f) in
    filter-agree (is_among faces) (λ f. is_among (filter test faces) f && not (is_hole level f)) test (λ f there. again (is_among (filter test faces) f) (meets predicate depth f) (not (is_hole level f)) (kept-passes test faces f there)) faces (all-own faces)

-- the selected faces, by their numbers among all
pub selected-among : (base : Level) (predicate : FacePredicate) (k : ℕ) → selected base predicate k ≡ faces_among (refined_level base k) (selected base predicate k)
selected-among base predicate k =
    let level = refined_level base k in
    let ins = inner base predicate k in
    let some = chosen level predicate k ins in
    let test : ℕ → Bool = λ f. is_among some f && not (is_hole level f) in
    let same = selected-chosen base predicate k in
    same
    ∙ sym (chosen-again level predicate k ins)
    ∙ sym (kept-of-all test 0 (length level.polygons) ins (inner-ascends base predicate k) (λ i low high on.
    kept-among (λ face. meets predicate k face && not (is_hole level face)) ins i (and_parts (is_among some i) (not (is_hole level i)) on).0))
    ∙ ap (faces_among level) (sym same)

pub selected-at : (base : Level) (predicate : FacePredicate) (depth k : ℕ) → k < depth → get_or (selected_to base predicate depth) k [] ≡ selected base predicate k
selected-at base predicate depth k h = get_or-map-range_with_len (selected base predicate) 0 depth k k [] h (omega arith)

module _ (base cut : Level) (same : HaveSameFaces base cut) (predicate : FacePredicate) where
  among-same : (k : ℕ) (numbers : List ℕ) → faces_among (refined_level cut k) numbers ≡ faces_among (refined_level base k) numbers
  among-same k numbers =
      let alike = after-same base cut same k in
      ap (λ count. filter (λ f. is_among numbers f && not (is_hole (refined_level cut k) f)) (range_with_len 0 count)) (count-same (refined_level base k) (refined_level cut k) alike)
      ∙ ap (λ marks. filter (λ f. is_among numbers f && not (get_or marks f false)) (range_with_len 0 (length (refined_level base k).polygons))) alike.holes

  pub cut-selection : (depth : ℕ) → IsSelection cut depth (selected_to base predicate depth)
  cut-selection depth = record {
    levels = length-map-range_with_len (selected base predicate) 0 depth;
    each = λ k h.
        let at = selected-at base predicate depth k h in
        at ∙ selected-among base predicate k ∙ sym (among-same k (selected base predicate k)) ∙ ap (faces_among (refined_level cut k)) (sym at);
  }

  module _ (depth : ℕ) where
    abbrev numbers : FacePredicate
    numbers = selected_to base predicate depth

    -- where the inner faces are the same, so are the selected ones
    from-inner : (k : ℕ) → k < depth → inner cut (selected_to base predicate depth) k ≡ inner base predicate k → selected cut (selected_to base predicate depth) k ≡ selected base predicate k
    from-inner k h e =
        let alike = after-same base cut same k in
        let level = refined_level base k in
        let at = selected-at base predicate depth k h in
        selected-chosen cut numbers k
        ∙ ap (chosen (refined_level cut k) numbers k) e
        ∙ ap (λ marks. filter (λ f. is_among (get_or numbers k []) f && not (get_or marks f false)) (inner base predicate k)) alike.holes
        ∙ ap (λ ns. filter (λ f. is_among ns f && not (is_hole level f)) (inner base predicate k)) (at ∙ selected-chosen base predicate k)
        ∙ chosen-again level predicate k (inner base predicate k)
        ∙ sym (selected-chosen base predicate k)

    pub cut-inner : (k : ℕ) → k ≤ depth → inner cut (selected_to base predicate depth) k ≡ inner base predicate k
    cut-inner zero h = ap (range_with_len 0) (count-same base cut same)
    cut-inner (suc k) h =
        let alike = after-same base cut same k in
        ap (children_of (refined_level cut k).polygons) (from-inner k (omega arith) (cut-inner k (omega arith)))
        ∙ children-same (refined_level cut k).polygons (refined_level base k).polygons (selected base predicate k) alike.sizes

    -- the faces that are selected by their numbers are the selected faces
    pub cut-selected : (k : ℕ) → k < depth → selected cut (selected_to base predicate depth) k ≡ selected base predicate k
    cut-selected k h = from-inner k h (cut-inner k (omega arith))
