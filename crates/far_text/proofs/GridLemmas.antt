-- The places of a grid, row by row, with an item each.
use Rattle.std.proofs.Common.{◌≡◌, ℕ, zero, suc, ◌+◌, ◌*◌, ◌<◌, ◌≤◌, List, ◌∷◌, length, map, zip, take, get_or, length-append, arith, lt_of_mul-lt-mul_right, refl, ap, sym, ◌∙◌}
use Rattle.std.specs.List.{flat_map, range_with_len}
use Rattle.std.proofs.lemmas.List.{length-map, get_or-map}
use Rattle.std.proofs.lemmas.List.Concat.{get_or-flat_map}
use Rattle.std.proofs.lemmas.List.FromFn.{get_or-range_with_len, get_or-map-range_with_len, length-range_with_len, length-map-range_with_len}
use Rattle.subdiv_model.specs.Patch.{patch_places}
use Rattle.far_text.proofs.ListLemmas.{all-pairs, pair-at, pair-there}

-- the places of a row of this length
abbrev row : ℕ → ℕ → List (ℕ × ℕ)
row side j = map (λ i. (i, j)) (range_with_len 0 side)

rows-length : (side first count : ℕ) → length (flat_map (row side) (range_with_len first count)) ≡ count * side
rows-length side first zero = omega arith
rows-length side first (suc count) =
    let wide : length (row side first) ≡ side = length-map-range_with_len {X = ℕ × ℕ} (λ i. (i, first)) 0 side in
    omega (arith, length-append (row side first) (flat_map (row side) (range_with_len (first + 1) count)), wide, rows-length side (first + 1) count)

take-range : (first count n : ℕ) → n ≤ count → take n (range_with_len first count) ≡ range_with_len first n
take-range first count zero h = refl
take-range first zero (suc n) h = absurd (omega arith)
take-range first (suc count) (suc n) h = ap (λ rest. first ∷ rest) (take-range (first + 1) count n (omega (arith, h)))

-- the place of a number in rows of this length
place-in-rows : (side i j : ℕ) (d : ℕ × ℕ) → i < side → j < side → get_or (flat_map (row side) (range_with_len 0 side)) (j * side + i) d ≡ (i, j)
place-in-rows side i j d before below =
    let there : get_or (range_with_len 0 side) j 0 ≡ j = omega (arith, get_or-range_with_len 0 side j 0 below) in
    let rows : length (flat_map (row side) (take j (range_with_len 0 side))) ≡ j * side =
    ap (λ (js : List ℕ). length (flat_map (row side) js)) (take-range 0 side j (omega (arith, below))) ∙ rows-length side 0 j in
    let wide : (k : ℕ) → length (row side k) ≡ side = λ k. length-map-range_with_len {X = ℕ × ℕ} (λ i. (i, k)) 0 side in
    ap (λ n. get_or (flat_map (row side) (range_with_len 0 side)) (n + i) d) (sym rows)
    ∙ get_or-flat_map (row side) (range_with_len 0 side) j i 0 d (omega (arith, below, length-range_with_len 0 side))
    (omega (arith, before, wide (get_or (range_with_len 0 side) j 0)))
    ∙ ap (λ k. get_or (row side k) i d) there
    ∙ get_or-map-range_with_len {X = ℕ × ℕ} (λ i. (i, j)) 0 side i i d before (omega arith)

-- a number in a square is of a row of the square
row-within : (side i j : ℕ) → j * side + i < side * side → j < side
row-within side i j h = lt_of_mul-lt-mul_right side (omega (arith, h))

-- the places with views of their items
abbrev pub placed : {X Y : Type 0} → ℕ → (X → Y) → List X → List ((ℕ × ℕ) × Y)
placed grid view items = zip (patch_places grid) (map view items)

module _ {X Y : Type 0} (grid : ℕ) (view : X → Y) (items : List X) (each : length items ≡ length (patch_places grid)) where
  views-each : length (map view items) ≡ length (patch_places grid)
  views-each = length-map items view ∙ each

  pub within-places : (n : ℕ) → n < length items → n < length (placed grid view items)
  within-places n within = pair-there (patch_places grid) (map view items) n views-each (omega (arith, within, each))

  -- the place of a number, with the view of its item
  pub place-at : (n : ℕ) (place : ℕ × ℕ) (item : X) (d : (ℕ × ℕ) × Y) → n < length items → place.0 < grid + 1 → place.1 * (grid + 1) + place.0 ≡ n
      → item ≡ get_or items n item → (place, view item) ≡ get_or (placed grid view items) n d
  place-at n place item d within before number is =
      let inside : n < length (patch_places grid) = omega (arith, within, each) in
      let below : place.1 < grid + 1 = row-within (grid + 1) place.0 place.1 (omega (arith, number, inside, rows-length (grid + 1) 0 (grid + 1))) in
      let there : get_or (patch_places grid) n d.0 ≡ place =
      ap (λ k. get_or (patch_places grid) k d.0) (sym number) ∙ place-in-rows (grid + 1) place.0 place.1 d.0 before below in
      let seen : get_or (map view items) n d.1 ≡ view item = get_or-map view items n item d.1 within ∙ ap view (sym is) in
      ap (λ (q : ℕ × ℕ). (q, view item)) (sym there)
      ∙ ap (λ (y : Y). (get_or (patch_places grid) n d.0, y)) (sym seen)
      ∙ pair-at (patch_places grid) (map view items) n d views-each inside

  pub all-places : (n : ℕ) → length items ≤ n → take n (placed grid view items) ≡ placed grid view items
  all-places n past = all-pairs (patch_places grid) (map view items) n views-each (omega (arith, past, each))
