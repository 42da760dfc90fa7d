-- The first vertex whose faces are not one fan is the first such vertex of corners that are sorted by vertex.
use Rattle.std.proofs.Common.{◌≡◌, ℕ, suc, ◌+◌, ◌<◌, ◌≤◌, ◌^◌, Bool, true, false, not, ◌||◌, nat_eq, nat_le, List, [], ◌∷◌, length, get_or, arith, refl, ap, sym, subst, ◌∙◌, ◌⊎◌, inl, inr, Option, Some, None, zero-add}
use Rattle.std.specs.List.{All, filter, list_all, list_any, find, sum_by, range_with_len}
use Rattle.std.specs.List.Sorted.{IsPermutation}
use Rattle.std.proofs.lemmas.Bool.Decides.{nat_tests}
use Rattle.std.proofs.lemmas.Bool.{or_cases, eqb-true}
use Rattle.std.proofs.lemmas.List.{length-append, length-map, map-append}
use Rattle.std.proofs.lemmas.List.Folds.{list_any-append}
use Rattle.std.proofs.lemmas.List.FromFn.{length-range_with_len, get_or-range_with_len}
use Rattle.std.proofs.lemmas.List.Sorted.{length_permutation, list_any-IsPermutation}
use Rattle.std.proofs.lemmas.List.Sums.{AllPass-from_list_all, sum_by-cons}
use Rattle.subdiv_model.specs.Polygons.{Polygon, has_corner, is_among}
use Rattle.subdiv_model.specs.Lists.{first_of, places_from}
use Rattle.subdiv_model.specs.Manifold.{is_simple, none_left, walk_meets_all, has_one_fan}
use Rattle.subdiv_model.specs.MeshFault.{split_vertices}
use Rattle.mesh_laws.proofs.SideLemmas.{among-place}
use Rattle.level_topology.proofs.FanOrderLemmas.{among-at}
use Rattle.mesh_check.specs.declared.turns.Turn.{Turn}
use Rattle.level_builder.specs.Keys.{Rises}
use Rattle.mesh_check.specs.Turns.{turns_of, turns_after, AreSortedTurns}
use Rattle.level_builder.proofs.SearchLemmas.{rises-from}
use Rattle.mesh_check.proofs.GroupTurnLemmas.{group-of}
use Rattle.mesh_check.proofs.TurnLemmas.{face-vertices}
use Rattle.mesh_check.specs.Groups.{vertices, AreGroups}

-- a number that a search finds passes
find-passes : (test : ℕ → Bool) (xs : List ℕ) (n : ℕ) → find test xs ≡ Some n → test n ≡ true
find-passes test [] n h = absurd (cc)
find-passes test (x ∷ xs) n h = go (test x) refl (λ k. find-passes test xs n k)
  where
    go : (b : Bool) → test x ≡ b → (find test xs ≡ Some n → test n ≡ true) → test n ≡ true
    go true e behind = let found : Some x ≡ Some n = rw e at h in let same : x ≡ n = cc in ap test (sym same) ∙ e
    go false e behind = behind (rw e at h)

-- among numbers that ascend it is the least that passes
find-least : (test : ℕ → Bool) (xs : List ℕ) (n : ℕ) → Rises xs → is_among xs n ≡ true → test n ≡ true → (m : ℕ) × (find test xs ≡ Some m) × (m ≤ n)
find-least test [] n rises there passes = absurd (cc)
find-least test (x ∷ xs) n rises there passes = go (test x) refl (or_cases (nat_eq n x) (is_among xs n) there) (λ k. find-least test xs n rises.1 k passes)
  where
    below : is_among xs n ≡ true → x ≤ n
    below k =
        let at = among-at n xs k in
        let least : nat_le x (get_or xs at.0 0) ≡ true = AllPass-from_list_all (nat_le x) xs rises.0 at.0 0 at.1 in
        let is : get_or xs at.0 0 ≡ n = at.2 in
        grind (arith, nat_tests)

    go : (b : Bool) → test x ≡ b → (nat_eq n x ≡ true) ⊎ (is_among xs n ≡ true) → (is_among xs n ≡ true → (m : ℕ) × (find test xs ≡ Some m) × (m ≤ n)) → (m : ℕ) × (find test (x ∷ xs) ≡ Some m) × (m ≤ n)
    go true e (inl k) behind = (x, rw e refl, grind (arith, nat_tests))
    go true e (inr k) behind = (x, rw e refl, below k)
    go false e (inl k) behind = let passed : test x ≡ true = ap test (sym (eqb-true n x k)) ∙ passes in absurd (cc)
    go false e (inr k) behind = let found = behind k in (found.0, rw e found.1, found.2)

-- a search finds the same in any numbers that ascend and have all that pass
find-same : (test : ℕ → Bool) (xs ys : List ℕ) → Rises xs → Rises ys → ((n : ℕ) → test n ≡ true → is_among xs n ≡ true) → ((n : ℕ) → test n ≡ true → is_among ys n ≡ true) → find test xs ≡ find test ys
find-same test xs ys rises climbs within there = go (find test xs) refl (find test ys) refl
  where
    go : (r : Option ℕ) → find test xs ≡ r → (s : Option ℕ) → find test ys ≡ s → find test xs ≡ find test ys
    go None e None f = e ∙ sym f
    go None e (Some n) f =
        let passes = find-passes test ys n f in
        let least = find-least test xs n rises (within n passes) passes in
        let found : None ≡ Some least.0 = sym e ∙ least.1 in
        absurd (cc)
    go (Some m) e None f =
        let passes = find-passes test xs m e in
        let least = find-least test ys m climbs (there m passes) passes in
        let found : None ≡ Some least.0 = sym f ∙ least.1 in
        absurd (cc)
    go (Some m) e (Some n) f =
        let first = find-passes test xs m e in
        let second = find-passes test ys n f in
        let low = find-least test xs n rises (within n second) second in
        let high = find-least test ys m climbs (there m first) first in
        let at_low : Some m ≡ Some low.0 = sym e ∙ low.1 in
        let at_high : Some n ≡ Some high.0 = sym f ∙ high.1 in
        let is_low : m ≡ low.0 = cc in
        let is_high : n ≡ high.0 = cc in
        let same : m ≡ n = omega (arith, low.2, high.2, is_low, is_high) in
        e ∙ ap Some same ∙ sym f

-- the first number that passes
first-find : (test : ℕ → Bool) (xs : List ℕ) → first_of (filter test xs) ≡ find test xs
first-find test [] = refl
first-find test (x ∷ xs) = go (test x) refl (first-find test xs)
  where
    go : (b : Bool) → test x ≡ b → first_of (filter test xs) ≡ find test xs → first_of (filter test (x ∷ xs)) ≡ find test (x ∷ xs)
    go true e behind = rw e refl
    go false e behind = rw e behind

-- numbers one after another ascend
pub range-rises : (n : ℕ) → Rises (range_with_len 0 n)
range-rises n = rises-from (range_with_len 0 n) (λ i j h k.
    let inside : j < n = omega (arith, k, length-range_with_len 0 n) in
    let low : get_or (range_with_len 0 n) i 0 ≡ 0 + i = get_or-range_with_len 0 n i 0 (omega arith) in
    let high : get_or (range_with_len 0 n) j 0 ≡ 0 + j = get_or-range_with_len 0 n j 0 inside in
    omega (arith, low, high))

-- each number below the end is in the range
pub range-among : (n v : ℕ) → v < n → is_among (range_with_len 0 n) v ≡ true
range-among n v h = among-place v (range_with_len 0 n) v (omega (arith, length-range_with_len 0 n)) (get_or-range_with_len 0 n v 0 h ∙ zero-add v)

-- a test that no item passes has no place
no-places : {X : Type 0} (test : X → Bool) (place : ℕ) (xs : List X) → list_any test xs ≡ false → places_from place test xs ≡ []
no-places test place [] h = refl
no-places test place (x ∷ xs) h = go (test x) refl (λ k. no-places test (place + 1) xs k)
  where
    go : (b : Bool) → test x ≡ b → (list_any test xs ≡ false → places_from (place + 1) test xs ≡ []) → places_from place test (x ∷ xs) ≡ []
    go true e behind = let some : true ≡ false = (rw e at h) in absurd (cc)
    go false e behind = rw e (behind (rw e at h))

-- a vertex that is not one fan has a face
pub split-corner : (polygons : List Polygon) (v : ℕ) → not (has_one_fan polygons v) ≡ true → list_any (has_corner v) polygons ≡ true
split-corner polygons v split = go (list_any (has_corner v) polygons) refl
  where
    go : (b : Bool) → list_any (has_corner v) polygons ≡ b → list_any (has_corner v) polygons ≡ true
    go true e = e
    go false e =
        let fan : has_one_fan polygons v ≡ true = ap (λ faces. none_left faces || list_any (walk_meets_all polygons v faces) faces) (no-places (has_corner v) 0 polygons e) in
        let none : not true ≡ true = sym (ap not fan) ∙ split in
        absurd (cc)

-- each corner of a face is a vertex of the corners of all faces
pub corner-vertex : (v k : ℕ) (polygons : List Polygon) → is_among (vertices (turns_after k polygons)) v ≡ list_any (has_corner v) polygons
corner-vertex v k [] = refl
corner-vertex v k (polygon ∷ polygons) =
    ap (λ xs. is_among xs v) (map-append (λ (t : Turn). t.vertex) (turns_of k polygon) (turns_after (k + 1) polygons))
    ∙ list_any-append (nat_eq v) (vertices (turns_of k polygon)) (vertices (turns_after (k + 1) polygons))
    ∙ ap (λ xs. is_among xs v || is_among (vertices (turns_after (k + 1) polygons)) v) (face-vertices k polygon)
    ∙ ap (λ b. is_among polygon v || b) (corner-vertex v (k + 1) polygons)

-- a vertex of corners is that of one of them
any-vertex : (v : ℕ) (turns : List Turn) → is_among (vertices turns) v ≡ list_any (λ t. nat_eq v t.vertex) turns
any-vertex v [] = refl
any-vertex v (t ∷ turns) = ap (λ b. nat_eq v t.vertex || b) (any-vertex v turns)

-- in any order
pub moved-vertex : (v : ℕ) (xs ys : List Turn) → IsPermutation xs ys → is_among (vertices xs) v ≡ is_among (vertices ys) v
moved-vertex v xs ys moved =
    any-vertex v xs
    ∙ list_any-IsPermutation (λ (t : Turn). nat_eq v t.vertex) xs ys moved
    ∙ sym (any-vertex v ys)

-- a corner is one of the points
pub corner-inside : (points v : ℕ) (polygons : List Polygon) → All (λ face. All (λ w. w < points) face) polygons → list_any (has_corner v) polygons ≡ true → v < points
corner-inside points v [] within h = absurd (cc)
corner-inside points v (polygon ∷ polygons) within h = go (or_cases (has_corner v polygon) (list_any (has_corner v) polygons) h) (λ k. corner-inside points v polygons (λ i d inside. within (suc i) d (omega arith)) k)
  where
    go : (has_corner v polygon ≡ true) ⊎ (list_any (has_corner v) polygons ≡ true) → (list_any (has_corner v) polygons ≡ true → v < points) → v < points
    go (inl k) behind =
        let at = among-at v polygon k in
        subst (λ w. w < points) at.2 (within 0 [] (omega arith) at.0 0 at.1)
    go (inr k) behind = behind k

-- if corners ascend by vertex, the first vertex that is not one fan is the first of all
pub first-split : (points : ℕ) (polygons : List Polygon) (turns : List Turn) → All (λ face. All (λ w. w < points) face) polygons → IsPermutation (turns_after 0 polygons) turns → Rises (vertices turns) → find (λ v. not (has_one_fan polygons v)) (vertices turns) ≡ first_of (split_vertices points polygons)
first-split points polygons turns within moved rises =
    find-same (λ v. not (has_one_fan polygons v)) (vertices turns) (range_with_len 0 points) rises (range-rises points)
    (λ v split. sym (moved-vertex v (turns_after 0 polygons) turns moved) ∙ corner-vertex v 0 polygons ∙ split-corner polygons v split)
    (λ v split. range-among points v (corner-inside points v polygons within (split-corner polygons v split)))
    ∙ sym (first-find (λ v. not (has_one_fan polygons v)) (range_with_len 0 points))

-- a face has as many corners as it is long
after-length : (k : ℕ) (polygons : List Polygon) → length (turns_after k polygons) ≡ sum_by length polygons
after-length k [] = refl
after-length k (polygon ∷ polygons) =
    let here : length (turns_of k polygon) ≡ length polygon = sym (length-map (turns_of k polygon) (λ (t : Turn). t.vertex)) ∙ ap length (face-vertices k polygon) in
    omega (arith, here, length-append (turns_of k polygon) (turns_after (k + 1) polygons), after-length (k + 1) polygons, sum_by-cons length polygon polygons)

-- there is one corner with neighbours for each corner of a face
pub moved-length : (polygons : List Polygon) (turns : List Turn) → IsPermutation (turns_after 0 polygons) turns → length turns ≡ sum_by length polygons
moved-length polygons turns moved = length_permutation (turns_after 0 polygons) turns moved ∙ after-length 0 polygons

-- sorted corners of simple faces are groups
pub groups-start : (polygons : List Polygon) (turns : List Turn) → list_all is_simple polygons ≡ true → sum_by length polygons < 2 ^ 27 → AreSortedTurns polygons turns → AreGroups polygons turns
groups-start polygons turns simple few sorted = record {
  keys = sorted.keys;
  vertices_rise = sorted.vertices;
  short = omega (arith, moved-length polygons turns sorted.moved, few);
  groups = λ v there. group-of polygons simple v turns sorted.moved;
}
