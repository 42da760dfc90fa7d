-- Complete points are whole, inner faces have the facts of their faces, and the faces that a test selects are the selected faces.
use Rattle.std.proofs.Common.{◌≡◌, ℕ, zero, suc, ◌+◌, ◌<◌, ◌≤◌, Bool, true, false, not, ◌&&◌, nat_eq, nat_lt, List, [], ◌∷◌, length, map, get_or, arith, refl, ap, sym, ◌∙◌, subst, ◌⊎◌, inl, inr}
use Rattle.std.specs.List.{filter, list_all, range_with_len}
use Rattle.std.proofs.lemmas.Bool.{and_parts, eqb-true, ltb-true, lt-ltb, cases_lt}
use Rattle.std.proofs.lemmas.List.{length-map, get_or-map, get_or_past}
use Rattle.std.proofs.lemmas.List.FromFn.{fill_by_all}
use Rattle.std.proofs.lemmas.Map.Views.{any-filter_same}
use Rattle.subdiv_model.specs.Polygons.{is_among}
use Rattle.subdiv_model.specs.Level.{Level, is_hole, faces_at}
use Rattle.subdiv_model.specs.Child.{refined_level}
use Rattle.subdiv_model.specs.Feature.{facts_of, is_selectable}
use Rattle.subdiv_model.specs.Sparse.{FacePredicate, meets, chosen, selected, inner, present, present_points, is_whole}
use Rattle.mesh_laws.proofs.ClosedLemmas.{any-all}
use Rattle.mesh_laws.proofs.FanLemmas.{faces-among}
use Rattle.mesh_laws.proofs.WalkLemmas.{range-all}
use Rattle.part_laws.specs.Parts.{IsWholeAt, face_in}
use Rattle.part_laws.proofs.ListLemmas.{filter-mapped}
use Rattle.part_laws.proofs.AscendingLemmas.{Ascends, ascends, kept-of-all}
use Rattle.part_laws.proofs.PartLemmas.{as-many}
use Rattle.part_laws.proofs.PlaceLemmas.{among-range}
use Rattle.sparse_laws.specs.SparseLevels.{name_in}
use Rattle.sparse_laws.specs.Selected.{facts_in, is_selected_in}
use Rattle.sparse_laws.specs.Laws.{SparseRefinement, InnerFace, AgreeingTest, chosen_by}
use Rattle.sparse_laws.proofs.FactLemmas.{all-own, same-facts}
use Rattle.sparse_laws.proofs.InnerLemmas.{inner-present, inner-ascends}

-- what all numbers of a list pass, each passes
pub among-all : (test : ℕ → Bool) (ns : List ℕ) (n : ℕ) → is_among ns n ≡ true → list_all test ns ≡ true → test n ≡ true
among-all test ns n h all = let found = any-all (nat_eq n) test ns h all in ap test (eqb-true n found.0 found.1) ∙ found.2

-- a mark that is set is there
pub set-within : (marks : List Bool) (k : ℕ) → get_or marks k false ≡ true → k < length marks
set-within marks k h = go (cases_lt k (length marks))
  where
    go : (k < length marks) ⊎ (length marks ≤ k) → k < length marks
    go (inl less) = less
    go (inr more) = let past = get_or_past marks k false more in absurd (cc)

-- a point below the count whose mark is set has all its faces
pub complete-whole : (kept : SparseRefinement) (p : ℕ) → p < kept.sparse.level.point_count → get_or kept.sparse.complete p false ≡ true → IsWholeAt kept.sparse.numbers (refined_level kept.base kept.sparse.depth).polygons (name_in (present_points kept.base kept.predicate kept.sparse.depth) p)
complete-whole kept p below h f there =
    let s = kept.sparse in
    let points = present_points kept.base kept.predicate s.depth in
    let whole = refined_level kept.base s.depth in
    let within : p < length points = omega (arith, below, kept.is.points) in
    let here : is_whole kept.base kept.predicate s.depth (name_in points p) ≡ true =
    sym (get_or-map (is_whole kept.base kept.predicate s.depth) points p 0 false within) ∙ ap (λ marks. get_or marks p false) (sym kept.is.complete) ∙ h in
    ap (λ numbers. is_among numbers f) kept.is.numbers
    ∙ among-all (is_among (present kept.base kept.predicate s.depth)) (faces_at whole (name_in points p)) f (faces-among whole.polygons (name_in points p) f ∙ there) here

-- a point with a mark is below the number of points
pub marked-below : (kept : SparseRefinement) (p : ℕ) → get_or kept.sparse.complete p false ≡ true → p < kept.sparse.level.point_count
marked-below kept p h =
    let points = present_points kept.base kept.predicate kept.sparse.depth in
    let long : length kept.sparse.complete ≡ length points = ap length kept.is.complete ∙ length-map points (is_whole kept.base kept.predicate kept.sparse.depth) in
    omega (arith, set-within kept.sparse.complete p h, long, kept.is.points)

-- an inner face has the facts of its face in the uniform level
pub inner-facts : (kept : SparseRefinement) (at : InnerFace kept) → facts_in kept.sparse at.face ≡ facts_of (refined_level kept.base kept.sparse.depth) kept.sparse.depth (get_or kept.sparse.numbers at.face 0)
inner-facts kept at =
    let s = kept.sparse in
    same-facts (name_in (present_points kept.base kept.predicate s.depth)) s.numbers s.level (refined_level kept.base s.depth) kept.is.part at.face at.exists
    (λ p there. let mark = kept.is.inside at.face p at.inner there in complete-whole kept p (marked-below kept p mark) mark)
    s.depth

-- the faces below a count
pub range-below : (count : ℕ) → list_all (λ f. nat_lt f count) (range_with_len 0 count) ≡ true
range-below count = range-all (λ f. nat_lt f count) 0 count (λ f h. lt-ltb f count (omega (arith, h)))

-- a number is kept exactly where it passes and is listed
pub among-kept : (test : ℕ → Bool) (ns : List ℕ) (n : ℕ) → is_among (filter test ns) n ≡ (test n && is_among ns n)
among-kept test ns n = any-filter_same (nat_eq n) test (test n) (λ m h. ap test (sym (eqb-true n m h))) ns

-- a listed number is kept exactly where it passes
pub kept-passes : (test : ℕ → Bool) (ns : List ℕ) (n : ℕ) → is_among ns n ≡ true → is_among (filter test ns) n ≡ test n
kept-passes test ns n there = among-kept test ns n ∙ ap (λ b. test n && b) there ∙ whole (test n)
  where
    whole : (b : Bool) → (b && true) ≡ b
    whole true = refl
    whole false = refl

kept-of-range : (test : ℕ → Bool) (count n : ℕ) → n < count → is_among (filter test (range_with_len 0 count)) n ≡ test n
kept-of-range test count n below = kept-passes test (range_with_len 0 count) n (among-range 0 count n (omega arith) (omega (arith, below)))

-- tests that agree on the listed numbers keep the same ones
pub filter-agree : (keep test other : ℕ → Bool) → ((n : ℕ) → keep n ≡ true → test n ≡ other n) → (ns : List ℕ) → list_all keep ns ≡ true → filter test ns ≡ filter other ns
filter-agree keep test other same [] all = refl
filter-agree keep test other same (n ∷ ns) all =
    let parts = and_parts (keep n) (list_all keep ns) all in
    let here = same n parts.0 in
    let rest = filter-agree keep test other same ns parts.1 in
    rw (here, rest) refl

and-agree : (a b c d : Bool) → a ≡ b → (b ≡ true → c ≡ d) → (a && c) ≡ (b && d)
and-agree a true c d e same = rw e (same refl)
and-agree a false c d e same = rw e refl

-- the selected faces are chosen among the inner ones
pub selected-chosen : (base : Level) (predicate : FacePredicate) (depth : ℕ) → selected base predicate depth ≡ chosen (refined_level base depth) predicate depth (inner base predicate depth)
selected-chosen base predicate zero = refl
selected-chosen base predicate (suc depth) = refl

module _ (kept : SparseRefinement) where
  pub as-numbers : length kept.sparse.level.polygons ≡ length kept.sparse.numbers
  as-numbers = as-many (name_in (present_points kept.base kept.predicate kept.sparse.depth)) kept.sparse.numbers kept.sparse.level.polygons (refined_level kept.base kept.sparse.depth).polygons kept.is.part.polygons

  -- a face is marked exactly where it is inner
  pub inner-mark : (f : ℕ) → f < length kept.sparse.level.polygons → get_or kept.sparse.inner f false ≡ is_among (inner kept.base kept.predicate kept.sparse.depth) (face_in kept.sparse.numbers f)
  inner-mark f inside =
      ap (λ marks. get_or marks f false) kept.is.inner
      ∙ get_or-map (is_among (inner kept.base kept.predicate kept.sparse.depth)) kept.sparse.numbers f 0 false (omega (arith, inside, as-numbers))

  pub number-below : (f : ℕ) → f < length kept.sparse.level.polygons → face_in kept.sparse.numbers f < length (refined_level kept.base kept.sparse.depth).polygons
  number-below f inside = kept.is.part.polygons.inside f 0 (omega (arith, inside, as-numbers))

  -- the numbers of all faces
  pub numbers-read : map (face_in kept.sparse.numbers) (range_with_len 0 (length kept.sparse.level.polygons)) ≡ kept.sparse.numbers
  numbers-read = sym (fill_by_all (face_in kept.sparse.numbers) kept.sparse.numbers (length kept.sparse.level.polygons) 0 (sym as-numbers) (λ k h. refl))

  -- whether the definitions choose a face, of those that are inner
  abbrev is_chosen : ℕ → Bool
  is_chosen g = meets kept.predicate kept.sparse.depth g && not (is_hole (refined_level kept.base kept.sparse.depth) g)

  abbrev is_inner_chosen : ℕ → Bool
  is_inner_chosen g = is_among (inner kept.base kept.predicate kept.sparse.depth) g && is_chosen g

  module _ (by : AgreeingTest kept) where
    chosen-alike : (f : ℕ) → nat_lt f (length kept.sparse.level.polygons) ≡ true → is_inner_chosen (face_in kept.sparse.numbers f) ≡ is_selected_in by.test kept.sparse f
    chosen-alike f below =
        let s = kept.sparse in
        let whole = refined_level kept.base s.depth in
        let g = face_in s.numbers f in
        let inside = ltb-true f (length s.level.polygons) below in
        and-agree (is_among (inner kept.base kept.predicate s.depth) g) (get_or s.inner f false) (is_chosen g) (by.test (facts_in s f) && is_selectable (facts_in s f)) (sym (inner-mark f inside)) (λ mark.
        ap (λ ns. is_among ns g && not (is_hole whole g)) by.agrees
        ∙ ap (λ b. b && not (is_hole whole g)) (kept-of-range (λ face. by.test (facts_of whole s.depth face)) (length whole.polygons) g (number-below f inside))
        ∙ ap (λ facts. by.test facts && is_selectable facts) (sym (inner-facts kept (record { face = f; exists = inside; inner = mark }))))

    pub selected-here : map (face_in kept.sparse.numbers) (chosen_by by) ≡ selected kept.base kept.predicate kept.sparse.depth
    selected-here =
        let s = kept.sparse in
        let whole = refined_level kept.base s.depth in
        let count = length s.level.polygons in
        let ins = inner kept.base kept.predicate s.depth in
        let up : Ascends 0 (0 + length whole.polygons) s.numbers =
        subst (λ b. Ascends 0 b s.numbers) (let e : length whole.polygons ≡ 0 + length whole.polygons = omega arith in e) (ascends (length whole.polygons) s.numbers kept.is.part.polygons.ascending kept.is.part.polygons.inside) in
        sym (filter-mapped (λ f. nat_lt f count) (face_in s.numbers) (is_selected_in by.test s) is_inner_chosen chosen-alike (range_with_len 0 count) (range-below count))
        ∙ ap (filter is_inner_chosen) numbers-read
        ∙ sym (kept-of-all is_inner_chosen 0 (length whole.polygons) s.numbers up (λ i low high on.
        ap (λ ns. is_among ns i) kept.is.numbers ∙ inner-present kept.base kept.predicate s.depth i (and_parts (is_among ins i) (is_chosen i) on).0))
        ∙ kept-of-all is_inner_chosen 0 (length whole.polygons) ins (inner-ascends kept.base kept.predicate s.depth) (λ i low high on. (and_parts (is_among ins i) (is_chosen i) on).0)
        ∙ filter-agree (is_among ins) is_inner_chosen is_chosen (λ n on. ap (λ b. b && is_chosen n) on) ins (all-own ins)
        ∙ sym (selected-chosen kept.base kept.predicate s.depth)

-- the numbers of the faces that the test selects
pub selected-same : (kept : SparseRefinement) (by : AgreeingTest kept) → map (face_in kept.sparse.numbers) (chosen_by by) ≡ selected kept.base kept.predicate kept.sparse.depth
selected-same kept by = selected-here kept by
