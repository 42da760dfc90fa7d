-- Numbers that ascend, searched, and the first side that a search finds.
use Rattle.std.proofs.Common.{◌≡◌, ℕ, zero, suc, ◌<◌, ◌≤◌, Bool, true, false, ◌||◌, nat_eq, nat_le, nat_lt, List, [], ◌∷◌, length, map, get_or, arith, refl, ap, sym, ◌∙◌, Result, Ok, Err}
use Rattle.std.specs.List.{count_by, filter, find}
use Rattle.std.specs.List.Sorted.{IsBinarySearchResult, IsPermutation, IsSorted}
use Rattle.std.specs.Ordering.{nat_cmp}
use Rattle.std.specs.Result.{MatchResult, is_ok}
use Rattle.std.proofs.lemmas.Bool.Decides.{nat_tests}
use Rattle.std.proofs.lemmas.Grind.{get_or_default_zero}
use Rattle.std.proofs.lemmas.List.Folds.{list_any_none}
use Rattle.std.proofs.lemmas.List.Sums.{AllPass-from_list_all, list_all-from_AllPass}
use Rattle.std.proofs.lemmas.List.Sorted.{searched, IsNonDecreasingBy-from_sort}
use Rattle.subdiv_model.specs.Polygons.{same_side, same_edge, is_among}
use Rattle.subdiv_model.specs.Edges.{reversed}
use Rattle.mesh_laws.proofs.SideLemmas.{among-place}
use Rattle.level_builder.specs.Keys.{IsWord, AreWords, side_key, edge_key, Rises, repeats, is_named}
use Rattle.level_builder.proofs.KeyLemmas.{side-key-same, edge-key-same, count-keys, find-agree, filter-agree, repeats-count, count-moved}

-- numbers that ascend do so between any two places
pub rise-at : (xs : List ℕ) → Rises xs → (i j : ℕ) → i ≤ j → j < length xs → get_or xs i 0 ≤ get_or xs j 0
rise-at [] rises i j h k = absurd (omega arith)
rise-at (x ∷ xs) rises zero zero h k = omega arith
rise-at (x ∷ xs) rises zero (suc j) h k =
    let at : nat_le x (get_or xs j 0) ≡ true = AllPass-from_list_all (nat_le x) xs rises.0 j 0 (omega arith) in
    grind (arith, nat_tests)
rise-at (x ∷ xs) rises (suc i) zero h k = absurd (omega arith)
rise-at (x ∷ xs) rises (suc i) (suc j) h k = rise-at xs rises.1 i j (omega arith) (omega arith)

pub rises-from : (xs : List ℕ) → ((i j : ℕ) → i ≤ j → j < length xs → get_or xs i 0 ≤ get_or xs j 0) → Rises xs
rises-from [] h = tt
rises-from (x ∷ xs) h = (
  list_all-from_AllPass (nat_le x) xs (λ k d i.
      let least : x ≤ get_or xs k 0 = h 0 (suc k) (omega arith) (omega arith) in
      ap (nat_le x) (get_or_default_zero xs k d i) ∙ yes x (get_or xs k 0) least),
  rises-from xs (λ i j a b. h (suc i) (suc j) (omega arith) (omega arith)),
)
  where
    yes : (a b : ℕ) → a ≤ b → nat_le a b ≡ true
    yes a b e = grind (arith, nat_tests)

-- after a sort numbers ascend
pub sorted-rises : (xs : List ℕ) → IsSorted nat_cmp xs → Rises xs
sorted-rises xs h = rises-from xs (λ i j a b. IsNonDecreasingBy-from_sort (λ x. x) xs h i j 0 a b)

-- a search finds a number exactly where it is in the list
pub search-known : (xs : List ℕ) (x : ℕ) (r : Result ℕ ℕ) (b : Bool) → IsBinarySearchResult (λ y. nat_cmp y x) xs r → Rises xs → b ≡ is_ok r → b ≡ is_among xs x
search-known xs x r b found rises is = is ∙ go r (searched xs x r found (rise-at xs rises))
  where
    go : (r : Result ℕ ℕ) → MatchResult r (λ i. (i < length xs) × (get_or xs i 0 ≡ x)) (λ i. (i ≤ length xs) × ((k : ℕ) → k < i → get_or xs k 0 < x) × ((k : ℕ) → i ≤ k → k < length xs → x < get_or xs k 0)) → is_ok r ≡ is_among xs x
    go (Ok i) h = sym (among-place x xs i h.0 h.1)
    go (Err i) h = sym (list_any_none (nat_eq x) xs (λ k d inside. ap (nat_eq x) (get_or_default_zero xs k d inside) ∙ other k (nat_lt k i) refl inside))
      where
        apart : (y : ℕ) → y < x → nat_eq x y ≡ false
        apart y e = grind (arith, nat_tests)

        beyond : (y : ℕ) → x < y → nat_eq x y ≡ false
        beyond y e = grind (arith, nat_tests)

        other : (k : ℕ) (c : Bool) → nat_lt k i ≡ c → k < length xs → nat_eq x (get_or xs k 0) ≡ false
        other k true e inside = apart (get_or xs k 0) (h.1 k (grind (arith, nat_tests)))
        other k false e inside = beyond (get_or xs k 0) (h.2 k (grind (arith, nat_tests)) inside)

-- the numbers that occur more often than the limit, after a sort
pub often-moved : (limit : ℕ) (xs ys : List ℕ) → IsPermutation xs ys → Rises ys → (n : ℕ) → is_among (repeats limit ys) n ≡ nat_lt limit (count_by (nat_eq n) xs)
often-moved limit xs ys moved rises n = repeats-count limit n ys rises ∙ ap (nat_lt limit) (count-moved (nat_eq n) xs ys moved)

above : (k n : ℕ) → nat_lt k n ≡ nat_le (suc k) n
above k n = grind (arith, nat_tests)

-- three sides are an edge
abbrev is_crowded_in : List (ℕ × ℕ) → ℕ × ℕ → Bool
is_crowded_in sides s = nat_le 3 (count_by (same_edge s) sides)

-- two sides are an edge in one direction
abbrev is_clashing_in : List (ℕ × ℕ) → ℕ × ℕ → Bool
is_clashing_in sides s = nat_le 2 (count_by (same_side s) sides) || nat_le 2 (count_by (same_side (reversed s)) sides)

module _ (sides : List (ℕ × ℕ)) (found keys : List ℕ) (words : AreWords sides) where
  -- the list has the number of an edge exactly where the edge has three sides
  crowded-named : keys ≡ map edge_key sides → ((n : ℕ) → is_among found n ≡ nat_lt 2 (count_by (nat_eq n) keys)) → (s : ℕ × ℕ) → IsWord s → is_named false found s ≡ is_crowded_in sides s
  crowded-named is often s word =
      often (edge_key s)
      ∙ ap (λ ks. nat_lt 2 (count_by (nat_eq (edge_key s)) ks)) is
      ∙ ap (nat_lt 2) (count-keys edge_key same_edge edge-key-same s word sides words)
      ∙ above 2 (count_by (same_edge s) sides)

  -- the list has the number of a side exactly where the side occurs twice
  twice-side : keys ≡ map side_key sides → ((n : ℕ) → is_among found n ≡ nat_lt 1 (count_by (nat_eq n) keys)) → (s : ℕ × ℕ) → IsWord s → is_among found (side_key s) ≡ nat_le 2 (count_by (same_side s) sides)
  twice-side is often s word =
      often (side_key s)
      ∙ ap (λ ks. nat_lt 1 (count_by (nat_eq (side_key s)) ks)) is
      ∙ ap (nat_lt 1) (count-keys side_key same_side (λ a b x y. side-key-same a b x.1 y.1) s word sides words)
      ∙ above 1 (count_by (same_side s) sides)

  clashing-named : keys ≡ map side_key sides → ((n : ℕ) → is_among found n ≡ nat_lt 1 (count_by (nat_eq n) keys)) → (s : ℕ × ℕ) → IsWord s → is_named true found s ≡ is_clashing_in sides s
  clashing-named is often s word =
      let one = twice-side is often s word in
      let other = twice-side is often (reversed s) (word.1, word.0) in
      rw (one, other) refl

  -- the first side whose edge three sides are
  pub crowded-found : keys ≡ map edge_key sides → ((n : ℕ) → is_among found n ≡ nat_lt 2 (count_by (nat_eq n) keys)) → find (is_named false found) sides ≡ find (is_crowded_in sides) sides
  crowded-found is often = find-agree (is_named false found) (is_crowded_in sides) (crowded-named is often) sides words

  -- the first side whose edge two sides are in one direction
  pub clashing-found : keys ≡ map side_key sides → ((n : ℕ) → is_among found n ≡ nat_lt 1 (count_by (nat_eq n) keys)) → find (is_named true found) sides ≡ find (is_clashing_in sides) sides
  clashing-found is often = find-agree (is_named true found) (is_clashing_in sides) (clashing-named is often) sides words

  -- the sides whose edge three sides are
  pub crowded-kept : keys ≡ map edge_key sides → ((n : ℕ) → is_among found n ≡ nat_lt 2 (count_by (nat_eq n) keys)) → filter (is_named false found) sides ≡ filter (is_crowded_in sides) sides
  crowded-kept is often = filter-agree (is_named false found) (is_crowded_in sides) (crowded-named is often) sides words

  -- the sides whose edge two sides are in one direction
  pub clashing-kept : keys ≡ map side_key sides → ((n : ℕ) → is_among found n ≡ nat_lt 1 (count_by (nat_eq n) keys)) → filter (is_named true found) sides ≡ filter (is_clashing_in sides) sides
  clashing-kept is often = filter-agree (is_named true found) (is_clashing_in sides) (clashing-named is often) sides words
