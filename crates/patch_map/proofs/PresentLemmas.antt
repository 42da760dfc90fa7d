-- The present faces of a level, and the places of selected faces' children among them.
use Rattle.std.proofs.Common.{◌≡◌, ℕ, zero, suc, ◌+◌, ◌*◌, ◌<◌, ◌≤◌, true, nat_eq, nat_le, List, [], length, get_or, take, arith, ap, sym, ◌∙◌, subst}
use Rattle.std.specs.List.{list_all, position_or_len, sum_by}
use Rattle.std.proofs.lemmas.List.{take-take}
use Rattle.std.proofs.lemmas.List.Sums.{list_all-from_AllPass, sum_by-take-le}
use Rattle.std.proofs.lemmas.List.Kept.{AllPairs-from_increasing}
use Rattle.subdiv_model.specs.Polygons.{Polygon, polygon_at, is_among}
use Rattle.subdiv_model.specs.Level.{Level}
use Rattle.subdiv_model.specs.Child.{refined_level, child_polygons}
use Rattle.subdiv_model.specs.Sparse.{FacePredicate, child_number, corners_of, parents_of, is_on, selected, present}
use Rattle.mesh_laws.proofs.ClosedLemmas.{all-at}
use Rattle.mesh_laws.proofs.ChildPlaceLemmas.{all-of}
use Rattle.level_laws.proofs.FaceLemmas.{child_polygons-length}
use Rattle.part_laws.proofs.AscendingLemmas.{Ascends}
use Rattle.part_laws.proofs.PlaceLemmas.{first_place, owner-below, increasing, bounded}
use Rattle.sparse_laws.proofs.InnerLemmas.{inner-present, places-ascend, range-ascends}
use Rattle.sparse_laws.proofs.NumberLemmas.{among-places, corners-length, first-of-quads, parent-read, parents-length}
use Rattle.patch_map.proofs.RunLemmas.{run-at}

-- the numbers of first children never decrease
pub first-up : (polygons : List Polygon) (f g : ℕ) → f ≤ g → first_place polygons f ≤ first_place polygons g
first-up polygons f g h = subst (λ firsts. sum_by length firsts ≤ first_place polygons g) (take-take f g polygons h) (sum_by-take-le length (take g polygons) f)

module _ (base : Level) (predicate : FacePredicate) where
  -- present faces ascend, and are faces
  pub present-ascends : (depth : ℕ) → Ascends 0 (0 + length (refined_level base depth).polygons) (present base predicate depth)
  present-ascends zero = range-ascends 0 (length base.polygons)
  present-ascends (suc depth) =
      let level = refined_level base depth in
      subst (λ n. Ascends 0 (0 + n) (present base predicate (suc depth))) (corners-length level.polygons ∙ sym (child_polygons-length level.point_count level.polygons))
      (places-ascend (is_on level.polygons (selected base predicate depth)) 0 (corners_of level.polygons))

  pub present-below : (depth place d : ℕ) → place < length (present base predicate depth) → get_or (present base predicate depth) place d < length (refined_level base depth).polygons
  present-below depth place d h = let below = bounded 0 _ (present base predicate depth) (present-ascends depth) place d h in omega (arith, below)

  pub present-up : (depth i j : ℕ) → i < j → j < length (present base predicate depth) → get_or (present base predicate depth) i 0 < get_or (present base predicate depth) j 0
  present-up depth i j less h = AllPairs-from_increasing (present base predicate depth) (increasing 0 _ (present base predicate depth) (present-ascends depth)) i j 0 less h

  -- the children of a selected face are present
  pub child-present : (depth n c : ℕ) → is_among (selected base predicate depth) n ≡ true → n < length (refined_level base depth).polygons → c < length (polygon_at (refined_level base depth).polygons n)
      → is_among (present base predicate (suc depth)) (first_place (refined_level base depth).polygons n + c) ≡ true
  child-present depth n c chosen below corner =
      let polygons = (refined_level base depth).polygons in
      let inside : first_place polygons n + c < length (parents_of polygons) = omega (arith, owner-below polygons n c below corner, parents-length polygons) in
      inner-present base predicate (suc depth) (first_place polygons n + c)
      (among-places (is_among (selected base predicate depth)) 0 (first_place polygons n + c) (parents_of polygons) inside
      ∙ ap (is_among (selected base predicate depth)) (parent-read polygons n c below corner) ∙ chosen)

  -- the children of a face follow one another
  pub child-stands : (depth n c : ℕ) → is_among (selected base predicate depth) n ≡ true → n < length (refined_level base depth).polygons → c < length (polygon_at (refined_level base depth).polygons n)
      → (position_or_len (nat_le (child_number (refined_level base depth).polygons (n, 0))) (present base predicate (suc depth)) + c < length (present base predicate (suc depth)))
      × (get_or (present base predicate (suc depth)) (position_or_len (nat_le (child_number (refined_level base depth).polygons (n, 0))) (present base predicate (suc depth)) + c) 0 ≡ child_number (refined_level base depth).polygons (n, c))
  child-stands depth n c chosen below corner =
      let polygons = (refined_level base depth).polygons in
      let start = child_number polygons (n, 0) in
      let run = run-at 0 _ start c (present base predicate (suc depth)) (present-ascends (suc depth)) (λ i h.
      let same : first_place polygons n + i ≡ start + i = omega arith in
      ap (is_among (present base predicate (suc depth))) (sym same) ∙ child-present depth n i chosen below (omega (arith, h, corner))) in
      (run.0, run.1 ∙ (let e : start + c ≡ child_number polygons (n, c) = omega arith in e))

  -- after level 0 each face is a quad
  pub quads-after : (depth : ℕ) → list_all (λ quad. nat_eq (length quad) 4) (refined_level base (suc depth)).polygons ≡ true
  quads-after depth =
      let level = refined_level base depth in
      list_all-from_AllPass (λ quad. nat_eq (length quad) 4) (child_polygons level.point_count level.polygons) (λ k d h.
      let found = all-of level.point_count level.polygons k d h in ap (λ quad. nat_eq (length quad) 4) found.2.is)

  pub quad-after : (depth n : ℕ) → n < length (refined_level base (suc depth)).polygons → nat_eq (length (polygon_at (refined_level base (suc depth)).polygons n)) 4 ≡ true
  quad-after depth n h = all-at (λ quad. nat_eq (length quad) 4) (refined_level base (suc depth)).polygons n [] h (quads-after depth)

  -- the number of a quad's first child is four times its own
  pub start-after : (depth n : ℕ) → n < length (refined_level base (suc depth)).polygons → child_number (refined_level base (suc depth)).polygons (n, 0) ≡ 4 * n
  start-after depth n h =
      let first = first-of-quads (refined_level base (suc depth)).polygons n (quads-after depth) (omega (arith, h)) in
      omega (arith, first)
