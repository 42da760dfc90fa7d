-- The marks of selected faces are those of the definitions.
use Rattle.std.proofs.Common.{◌≡◌, ℕ, ◌+◌, ◌<◌, Bool, false, nat_eq, nat_lt, List, length, map, get_or, arith, ap, sym, ◌∙◌}
use Rattle.std.specs.List.{range_with_len}
use Rattle.std.proofs.lemmas.Bool.{lt-ltb}
use Rattle.std.proofs.lemmas.List.{length-map, get_or-map, same_lists}
use Rattle.std.proofs.lemmas.List.FromFn.{get_or-map-range_with_len, length-map-range_with_len}
use Rattle.subdiv_model.specs.Polygons.{is_among}
use Rattle.subdiv_model.specs.Child.{refined_level}
use Rattle.subdiv_model.specs.Sparse.{selected, present_points}
use Rattle.part_laws.specs.Parts.{face_in}
use Rattle.part_laws.proofs.ListLemmas.{any-mapped, all-filtered}
use Rattle.part_laws.proofs.RenamedLemmas.{number-renamed}
use Rattle.part_laws.proofs.MaskLemmas.{faces-apart}
use Rattle.sparse_laws.specs.SparseLevels.{name_in}
use Rattle.sparse_laws.specs.Selected.{is_selected_in}
use Rattle.sparse_laws.specs.Laws.{SparseRefinement, AgreeingTest, chosen_by}
use Rattle.sparse_laws.proofs.SelectedLemmas.{as-numbers, range-below, selected-same}
use Rattle.sparse_level.proofs.PartOfPlacesLemmas.{marked-among}
use Rattle.sparse_level.proofs.SelectLemmas.{selected-marked}

module _ (kept : SparseRefinement) (by : AgreeingTest kept) where
  abbrev count : ℕ
  count = length kept.sparse.level.polygons

  abbrev numbers : List ℕ
  numbers = kept.sparse.numbers

  abbrev marks : List Bool
  marks = map (is_selected_in by.test kept.sparse) (range_with_len 0 count)

  -- the test selects a face exactly if its number is among the selected faces
  among-numbers : (f : ℕ) → f < count → is_among (selected kept.base kept.predicate kept.sparse.depth) (face_in numbers f) ≡ is_among (chosen_by by) f
  among-numbers f inside =
      let whole = (refined_level kept.base kept.sparse.depth).polygons in
      let name = name_in (present_points kept.base kept.predicate kept.sparse.depth) in
      ap (λ ns. is_among ns (face_in numbers f)) (sym (selected-same kept by))
      ∙ any-mapped (λ k. nat_lt k count) (face_in numbers) (nat_eq f) (nat_eq (face_in numbers f))
      (λ k h. number-renamed (face_in numbers) (λ i. nat_lt i count) (faces-apart name numbers kept.sparse.level.polygons whole kept.is.part.polygons) f k (lt-ltb f count inside) h)
      (chosen_by by) (all-filtered (is_selected_in by.test kept.sparse) (λ k. nat_lt k count) (range_with_len 0 count) (range-below count))

  mark-at : (f : ℕ) → get_or marks f false ≡ is_among (chosen_by by) f
  mark-at f = marked-among marks f ∙ ap (λ ns. is_among ns f) (selected-marked by.test kept.sparse)

  pub marks-are : map (is_selected_in by.test kept.sparse) (range_with_len 0 (length kept.sparse.level.polygons)) ≡ map (is_among (selected kept.base kept.predicate kept.sparse.depth)) kept.sparse.numbers
  marks-are =
      let sel = is_among (selected kept.base kept.predicate kept.sparse.depth) in
      let many = length-map-range_with_len (is_selected_in by.test kept.sparse) 0 count in
      same_lists marks (map sel numbers) (many ∙ as-numbers kept ∙ sym (length-map numbers sel)) (λ k d h.
      let below : k < count = omega (arith, h, many) in
      let read = get_or-map-range_with_len (is_selected_in by.test kept.sparse) 0 count k k in
      let e : 0 + k ≡ k = omega arith in
      read d below e ∙ sym (read false below e) ∙ mark-at k ∙ sym (among-numbers k below) ∙ sym (get_or-map sel numbers k 0 d (omega (arith, below, as-numbers kept))))
