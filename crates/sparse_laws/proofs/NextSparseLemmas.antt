-- The next level of a sparse level is that of the definitions.
use Rattle.std.proofs.Common.{◌≡◌, ℕ, zero, suc, ◌+◌, ◌*◌, ◌<◌, true, false, nat_eq, nat_lt, List, length, map, get_or, if◌then◌else◌, arith, ap, sym, ◌∙◌, subst}
use Rattle.std.specs.List.{list_all, range_with_len}
use Rattle.std.proofs.lemmas.Bool.{and_parts, lt-ltb, ltb-true}
use Rattle.std.proofs.lemmas.Bool.Decides.{nat_tests}
use Rattle.std.proofs.lemmas.List.{length-map}
use Rattle.std.proofs.lemmas.List.Elements.{filter_passes}
use Rattle.std.proofs.lemmas.List.FromFn.{get_or-range_with_len, length-range_with_len}
use Rattle.std.proofs.lemmas.List.Sums.{list_all-from_AllPass}
use Rattle.subdiv_model.specs.Polygons.{Polygon, has_corner, is_among, is_over, polygon_at}
use Rattle.subdiv_model.specs.Level.{Level}
use Rattle.subdiv_model.specs.Child.{child_polygons, refined_level}
use Rattle.subdiv_model.specs.Sparse.{FacePredicate, child_number, inner, is_on, is_whole, present, present_points, selected}
use Rattle.mesh_laws.proofs.FanLemmas.{any-number}
use Rattle.mesh_laws.proofs.WalkLemmas.{range-all}
use Rattle.mesh_laws.proofs.ChildPlaceLemmas.{all-of}
use Rattle.mesh_laws.proofs.ChildCornerLemmas.{corner-point}
use Rattle.mesh_laws.proofs.ChildOverLemmas.{levels-over-points}
use Rattle.part_laws.specs.Parts.{IsPart, IsWholeAt, face_in}
use Rattle.part_laws.specs.LevelParts.{IsLevelPart}
use Rattle.part_laws.proofs.ListLemmas.{map-agree, all-filtered}
use Rattle.part_laws.proofs.PartLemmas.{as-many, as-range}
use Rattle.part_laws.proofs.PlaceLemmas.{first_place}
use Rattle.part_laws.proofs.ChildLemmas.{face-below}
use Rattle.sparse_laws.specs.SparseLevels.{SparseLevel, IsSparse, name_in}
use Rattle.sparse_laws.specs.NextSparse.{next_children, next_places, next_points, uniform_child}
use Rattle.sparse_laws.specs.Selected.{is_selected_in}
use Rattle.sparse_laws.specs.Laws.{SparseRefinement, AgreeingTest, NextRefinement, chosen_by}
use Rattle.sparse_laws.proofs.SelectedLemmas.{among-all, selected-same, complete-whole}
use Rattle.sparse_laws.proofs.NumberLemmas.{first-of-quads, first-renamed, is_place}
use Rattle.sparse_laws.proofs.PresentLemmas.{Selection, all-chosen, number_there, numbers-same, parents-same}
use Rattle.sparse_laws.proofs.CompleteLemmas.{kid, kid_numbers}
use Rattle.sparse_laws.proofs.NextPartLemmas.{faces-same, points-same, marks-same, next-level-part, inside-complete}

-- the child faces are quads
child-quads : (points : ℕ) (polygons : List Polygon) → list_all (λ quad. nat_eq (length quad) 4) (child_polygons points polygons) ≡ true
child-quads points polygons =
    list_all-from_AllPass (λ quad. nat_eq (length quad) 4) (child_polygons points polygons) (λ k d h.
    let found = all-of points polygons k d h in ap (λ quad. nat_eq (length quad) 4) found.2.is)

-- level 0 of a part with all faces has the corners in the same places
first-same : (name : ℕ → ℕ) (part whole : List Polygon) (f : ℕ) → f < length part → IsPart name (range_with_len 0 (length whole)) part whole → first_place part f ≡ first_place whole (face_in (range_with_len 0 (length whole)) f)
first-same name part whole f h is =
    let below : f < length whole = omega (arith, h, as-many name (range_with_len 0 (length whole)) part whole is, length-range_with_len 0 (length whole)) in
    sym (first-renamed name part f)
    ∙ ap (λ polygons. first_place polygons f) (is.same ∙ sym (as-range whole))
    ∙ ap (first_place whole) (let e : f ≡ face_in (range_with_len 0 (length whole)) f = omega (arith, get_or-range_with_len 0 (length whole) f 0 below) in e)

-- the number of the child face of a corner, in level 0 and in the levels after it
uniform-same : (base : Level) (predicate : FacePredicate) (depth : ℕ) (name : ℕ → ℕ) (numbers : List ℕ) (part : Level) → is_over (refined_level base depth).point_count (refined_level base depth).polygons ≡ true → IsPart name numbers part.polygons (refined_level base depth).polygons → numbers ≡ present base predicate depth → (place : ℕ × ℕ) → is_place part.polygons place ≡ true → (if nat_eq depth 0 then child_number part.polygons place else 4 * get_or numbers place.0 0 + place.1) ≡ first_place (refined_level base depth).polygons (face_in numbers place.0) + place.1
uniform-same base predicate zero name numbers part over is e place h =
    let parts = and_parts (nat_lt place.0 (length part.polygons)) (nat_lt place.1 (length (polygon_at part.polygons place.0))) h in
    ap (λ n. n + place.1) (first-same name part.polygons base.polygons place.0 (ltb-true _ _ parts.0) (subst (λ ns. IsPart name ns part.polygons base.polygons) e is)
    ∙ ap (λ ns. first_place base.polygons (face_in ns place.0)) (sym e))
uniform-same base predicate (suc depth) name numbers part over is e place h =
    let before = refined_level base depth in
    let parts = and_parts (nat_lt place.0 (length part.polygons)) (nat_lt place.1 (length (polygon_at part.polygons place.0))) h in
    let below = face-below name numbers part (refined_level base (suc depth)) is over place.0 (ltb-true _ _ parts.0) in
    let later : nat_eq (suc depth) 0 ≡ false = grind (arith, nat_tests) in
    rw later (ap (λ n. n + place.1) (sym (first-of-quads (child_polygons before.point_count before.polygons) (face_in numbers place.0) (child-quads before.point_count before.polygons) (omega (arith, below)))))

module _ (kept : SparseRefinement) (by : AgreeingTest kept) where
  pub within : list_all (λ f. nat_lt f (length kept.sparse.level.polygons)) (chosen_by by) ≡ true
  within =
      let n = length kept.sparse.level.polygons in
      all-filtered (is_selected_in by.test kept.sparse) (λ f. nat_lt f n) (range_with_len 0 n) (range-all (λ f. nat_lt f n) 0 n (λ f h. lt-ltb f n (omega (arith, h))))

  pub has-all : (w : ℕ) → is_on kept.sparse.level.polygons (chosen_by by) w ≡ true → IsWholeAt kept.sparse.numbers (refined_level kept.base kept.sparse.depth).polygons (name_in (present_points kept.base kept.predicate kept.sparse.depth) w)
  has-all w on =
      let sparse = kept.sparse in
      let found = any-number (λ f. has_corner w (polygon_at sparse.level.polygons f)) (chosen_by by) on in
      let test = is_selected_in by.test sparse in
      let passes = list_all-from_AllPass test (chosen_by by) (filter_passes test (range_with_len 0 (length sparse.level.polygons))) in
      let inner = (and_parts (get_or sparse.inner found.0 false) _ (among-all test (chosen_by by) found.0 found.2 passes)).0 in
      let mark = kept.is.inside found.0 w inner found.1 in
      complete-whole kept w (ltb-true _ _ (corner-point sparse.level.point_count sparse.level.polygons found.0 w kept.is.over found.1)) mark

  pub whole-over : is_over (refined_level kept.base kept.sparse.depth).point_count (refined_level kept.base kept.sparse.depth).polygons ≡ true
  whole-over = levels-over-points kept.base kept.sparse.depth kept.over

  abbrev pub selection : Selection
  selection = record {
    name = name_in (present_points kept.base kept.predicate kept.sparse.depth);
    numbers = kept.sparse.numbers;
    part = kept.sparse.level;
    whole = refined_level kept.base kept.sparse.depth;
    is = kept.is.part;
    over = kept.is.over;
    whole_over = whole-over;
    some = chosen_by by;
    others = selected kept.base kept.predicate kept.sparse.depth;
    same = selected-same kept by;
    within = within;
    has_all = has-all;
  }

  uniform-numbers : map (uniform_child kept.sparse) (next_places kept.sparse.level.polygons (chosen_by by)) ≡ map (number_there selection) (next_places kept.sparse.level.polygons (chosen_by by))
  uniform-numbers =
      map-agree (is_place kept.sparse.level.polygons) (uniform_child kept.sparse) (number_there selection) (uniform-same kept.base kept.predicate kept.sparse.depth (name_in (present_points kept.base kept.predicate kept.sparse.depth)) kept.sparse.numbers kept.sparse.level whole-over kept.is.part.polygons kept.is.numbers) (next_places kept.sparse.level.polygons (chosen_by by)) (all-chosen selection)

-- a property at a depth is one at an equal depth of the level
sparse-at : (base : Level) (predicate : FacePredicate) (next : SparseLevel) (depth : ℕ) → next.depth ≡ depth → next.numbers ≡ present base predicate depth → next.level.point_count ≡ length (present_points base predicate depth) → IsLevelPart (name_in (present_points base predicate depth)) next.numbers next.level (refined_level base depth) → next.inner ≡ map (is_among (inner base predicate depth)) next.numbers → next.complete ≡ map (is_whole base predicate depth) (present_points base predicate depth) → ((f p : ℕ) → get_or next.inner f false ≡ true → has_corner p (polygon_at next.level.polygons f) ≡ true → get_or next.complete p false ≡ true) → is_over next.level.point_count next.level.polygons ≡ true → IsSparse base predicate next
sparse-at base predicate next depth e numbers points part marks complete inside over = record {
  numbers = numbers ∙ ap (present base predicate) (sym e);
  points = points ∙ ap (λ d. length (present_points base predicate d)) (sym e);
  part = subst (λ d. IsLevelPart (name_in (present_points base predicate d)) next.numbers next.level (refined_level base d)) (sym e) part;
  inner = marks ∙ ap (λ d. map (is_among (inner base predicate d)) next.numbers) (sym e);
  complete = complete ∙ ap (λ d. map (is_whole base predicate d) (present_points base predicate d)) (sym e);
  inside = inside;
  over = over;
}

pub next-sparse : (kept : SparseRefinement) (made : NextRefinement kept) → IsSparse kept.base kept.predicate made.next
next-sparse kept made =
    let s = selection kept made.by in
    let is = made.is_next in
    let next = made.next in
    let points = next_points kept.sparse.level (chosen_by made.by) in
    let chosen = next_places kept.sparse.level.polygons (chosen_by made.by) in
    let numbers : next.numbers ≡ present kept.base kept.predicate (suc kept.sparse.depth) = is.numbers ∙ uniform-numbers kept made.by ∙ sym (numbers-same s) in
    let named : map (kid s) points ≡ present_points kept.base kept.predicate (suc kept.sparse.depth) = sym (points-same s) in
    let part = next-level-part s next.level is.part is.over is.points in
    sparse-at kept.base kept.predicate next (suc kept.sparse.depth) is.depth numbers
    (is.points ∙ sym (length-map points (kid s)) ∙ ap length named)
    (subst (λ ns. IsLevelPart (name_in (present_points kept.base kept.predicate (suc kept.sparse.depth))) ns next.level (refined_level kept.base (suc kept.sparse.depth))) (faces-same s ∙ sym numbers)
    (subst (λ names. IsLevelPart (name_in names) (map (face_in (kid_numbers s)) (next_children kept.sparse.level.polygons (chosen_by made.by))) next.level (refined_level kept.base (suc kept.sparse.depth))) named part))
    (is.inner ∙ parents-same s ∙ ap (map (is_among (inner kept.base kept.predicate (suc kept.sparse.depth)))) (sym (is.numbers ∙ uniform-numbers kept made.by)))
    (is.complete ∙ marks-same s ∙ ap (map (is_whole kept.base kept.predicate (suc kept.sparse.depth))) named)
    (λ f p own at. ap (λ marks. get_or marks p false) is.complete ∙ inside-complete s next.level is.part is.over is.points f p (ap (λ marks. get_or marks f false) (sym is.inner) ∙ own) at)
    is.over
