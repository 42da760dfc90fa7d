-- The masks of a sparse level give the points of the next sparse level what the uniform points have.
use Rattle.std.proofs.Common.{◌≡◌, ℕ, suc, ◌<◌, pos, ℤ, true, List, [], length, map, get_or, arith, ap, sym, ◌∙◌, subst}
use Rattle.std.specs.List.{list_any}
use Rattle.std.proofs.lemmas.Bool.{ltb-true}
use Rattle.std.proofs.lemmas.List.{get_or-map}
use Rattle.subdiv_model.specs.Polygons.{is_among}
use Rattle.subdiv_model.specs.Child.{refined_level}
use Rattle.subdiv_model.specs.Mask.{Scheme, child_masks, mask_of}
use Rattle.subdiv_model.specs.Value.{whole_value}
use Rattle.subdiv_model.specs.Refined.{child_denominators, child_values, control_values, refined_denominators, refined_values}
use Rattle.subdiv_model.specs.Support.{child_supports, refined_supports}
use Rattle.subdiv_model.specs.Channel.{transition_overflows_at}
use Rattle.subdiv_model.specs.Sparse.{child_number, present_points}
use Rattle.subdiv_model.specs.SparseFaults.{points_with_child}
use Rattle.mesh_laws.proofs.ClosedLemmas.{all-at}
use Rattle.mesh_laws.proofs.ChildCornerLemmas.{corner-point}
use Rattle.mesh_laws.proofs.ChildOverLemmas.{levels-over-points}
use Rattle.part_laws.specs.Parts.{IsWholeAt, is_corner}
use Rattle.part_laws.specs.Masks.{mask_in}
use Rattle.part_laws.specs.Children.{IsOverPoints, name_next}
use Rattle.part_laws.specs.Values.{HasNextPoint, SharedItems, NextPoint, number_of}
use Rattle.part_laws.proofs.ListLemmas.{map-agree, map-twice}
use Rattle.part_laws.proofs.LevelLemmas.{same-transition}
use Rattle.part_laws.proofs.JoinLemmas.{corner-of}
use Rattle.part_laws.proofs.ChildLemmas.{child-points}
use Rattle.part_laws.proofs.ValueLemmas.{next-denominators, next-masks, next-supports, next-values}
use Rattle.sparse_laws.specs.NextSparse.{vertex_at}
use Rattle.sparse_laws.specs.Laws.{SparseRefinement, AgreeingTest, chosen_by, part_of}
use Rattle.sparse_laws.proofs.FactLemmas.{all-own}
use Rattle.sparse_laws.proofs.NextPartLemmas.{begins-at, points-same}
use Rattle.sparse_laws.proofs.NextSparseLemmas.{selection}
use Rattle.sparse_laws.proofs.OverflowLemmas.{child-corner, passes-here, passes-there}
use Rattle.sparse_values.specs.Uniform.{at_next_points, at_points, items_at, next_points_of, WeighsOver}

module _ (kept : SparseRefinement) where
  over-points : IsOverPoints (part_of kept)
  over-points = record { level = kept.is.over; whole = levels-over-points kept.base kept.sparse.depth kept.over }

  -- a corner is one of the present points
  corner-within : (p : ℕ) → is_corner kept.sparse.level.polygons p ≡ true → p < length (present_points kept.base kept.predicate kept.sparse.depth)
  corner-within p there =
      let level = kept.sparse.level in
      let found = corner-of level.polygons p there in
      omega (arith, ltb-true _ _ (corner-point level.point_count level.polygons found.0 p kept.is.over found.2), kept.is.points)

  -- the corners have the uniform items of their names
  abbrev shared_at : {X : Type 0} (d : X) (items : List X) → SharedItems (part_of kept) d
  shared_at d items = record {
    of_part = at_points kept d items;
    of_whole = items;
    same = λ p there. get_or-map (λ n. get_or items n d) (present_points kept.base kept.predicate kept.sparse.depth) p 0 d (corner-within p there);
  }

  module _ (by : AgreeingTest kept) where
    -- the sparse level has all sources of the mask of a point of the next sparse level
    next-point : (n : ℕ) → is_among (next_points_of by) n ≡ true → HasNextPoint (part_of kept) n
    next-point n among =
        let s = selection kept by in
        let at = child-corner s n among in
        let number = child_number kept.sparse.level.polygons at.place in
        let all = subst (λ w. IsWholeAt s.numbers s.whole.polygons (s.name w)) (sym (begins-at s at.place at.is)) (s.has_all (vertex_at s.part.polygons at.place) at.on) in
        child-points (part_of kept) over-points (record { number = number; has_all = all }) n at.corner

    -- lists that agree at the points of the next sparse level have the same items there
    items-same : {X : Type 0} (here there : List X) (d : X) → ((x : NextPoint (part_of kept)) → get_or here (number_of x) d ≡ get_or there (name_next (part_of kept) (number_of x)) d) → items_at (next_points_of by) d here ≡ at_next_points kept d there
    items-same here there d agree =
        let points = next_points_of by in
        map-agree (is_among points) (λ n. get_or here n d) (λ n. get_or there (name_next (part_of kept) n) d) (λ n among.
        let found = next-point n among in
        subst (λ m. get_or here m d ≡ get_or there (name_next (part_of kept) m) d) found.1 (agree found.0)) points (all-own points)
        ∙ sym (map-twice (name_next (part_of kept)) (λ m. get_or there m d) points)
        ∙ ap (map (λ m. get_or there m d)) (sym (points-same (selection kept by)))

    pub same-masks : (scheme : Scheme) (i : ℕ) → i < length (next_points_of by) → get_or (child_masks (refined_level kept.base kept.sparse.depth) scheme) (name_next (part_of kept) (get_or (next_points_of by) i 0)) (mask_of [] 1) ≡ mask_in (part_of kept).name kept.sparse.numbers (get_or (child_masks kept.sparse.level scheme) (get_or (next_points_of by) i 0) (mask_of [] 1))
    same-masks scheme i below =
        let points = next_points_of by in
        let found = next-point (get_or points i 0) (all-at (is_among points) points i 0 below (all-own points)) in
        subst (λ n. get_or (child_masks (refined_level kept.base kept.sparse.depth) scheme) (name_next (part_of kept) n) (mask_of [] 1) ≡ mask_in (part_of kept).name kept.sparse.numbers (get_or (child_masks kept.sparse.level scheme) n (mask_of [] 1))) found.1
        (next-masks (part_of kept) over-points scheme found.0)

    pub same-denominators : (scheme : Scheme) → items_at (next_points_of by) 1 (child_denominators kept.sparse.level scheme (at_points kept 1 (refined_denominators kept.base scheme kept.sparse.depth))) ≡ at_next_points kept 1 (refined_denominators kept.base scheme (suc kept.sparse.depth))
    same-denominators scheme =
        let now = refined_denominators kept.base scheme kept.sparse.depth in
        let shared = shared_at 1 now in
        items-same (child_denominators kept.sparse.level scheme shared.of_part) (refined_denominators kept.base scheme (suc kept.sparse.depth)) 1 (λ x. next-denominators (part_of kept) over-points scheme x shared)

    pub same-supports : (scheme : Scheme) → items_at (next_points_of by) [] (child_supports kept.base.point_count kept.sparse.level scheme (at_points kept [] (refined_supports kept.base scheme kept.sparse.depth))) ≡ at_next_points kept [] (refined_supports kept.base scheme (suc kept.sparse.depth))
    same-supports scheme =
        let shared = shared_at [] (refined_supports kept.base scheme kept.sparse.depth) in
        items-same (child_supports kept.base.point_count kept.sparse.level scheme shared.of_part) (refined_supports kept.base scheme (suc kept.sparse.depth)) [] (λ x. next-supports (part_of kept) over-points scheme x kept.base.point_count shared)

    pub same-values : (scheme : Scheme) (numbers : List ℤ) → items_at (next_points_of by) (whole_value (pos 0)) (child_values kept.sparse.level scheme (at_points kept (whole_value (pos 0)) (refined_values kept.base scheme (control_values numbers) kept.sparse.depth))) ≡ at_next_points kept (whole_value (pos 0)) (refined_values kept.base scheme (control_values numbers) (suc kept.sparse.depth))
    same-values scheme numbers =
        let shared = shared_at (whole_value (pos 0)) (refined_values kept.base scheme (control_values numbers) kept.sparse.depth) in
        items-same (child_values kept.sparse.level scheme shared.of_part) (refined_values kept.base scheme (control_values numbers) (suc kept.sparse.depth)) (whole_value (pos 0)) (λ x. next-values (part_of kept) over-points scheme x shared)

    -- at a point with all its faces the weight of a transition overflows in both levels or in neither
    weight-alike : (scheme : Scheme) (w : ℕ) → is_corner kept.sparse.level.polygons w ≡ true → IsWholeAt kept.sparse.numbers (refined_level kept.base kept.sparse.depth).polygons ((part_of kept).name w) → transition_overflows_at kept.sparse.level scheme w ≡ transition_overflows_at (refined_level kept.base kept.sparse.depth) scheme ((part_of kept).name w)
    weight-alike scheme w there all = same-transition (part_of kept).name kept.sparse.numbers kept.sparse.level (refined_level kept.base kept.sparse.depth) kept.is.part w there all scheme

    pub weighs-here : (scheme : Scheme) (v : ℕ) → WeighsOver kept.sparse.level (chosen_by by) scheme v → list_any (transition_overflows_at (refined_level kept.base kept.sparse.depth) scheme) (points_with_child kept.base kept.predicate (refined_level kept.base kept.sparse.depth).point_count kept.sparse.depth) ≡ true
    weighs-here scheme v o =
        passes-here (selection kept by) (transition_overflows_at kept.sparse.level scheme) (transition_overflows_at (refined_level kept.base kept.sparse.depth) scheme) (weight-alike scheme) v o.exists o.on o.overflows

    pub weighs-there : (scheme : Scheme) → list_any (transition_overflows_at (refined_level kept.base kept.sparse.depth) scheme) (points_with_child kept.base kept.predicate (refined_level kept.base kept.sparse.depth).point_count kept.sparse.depth) ≡ true → (v : ℕ) × WeighsOver kept.sparse.level (chosen_by by) scheme v
    weighs-there scheme some =
        let found = passes-there (selection kept by) (transition_overflows_at kept.sparse.level scheme) (transition_overflows_at (refined_level kept.base kept.sparse.depth) scheme) (weight-alike scheme) some in
        (found.w, record { exists = found.exists; on = found.on; overflows = found.passes })
