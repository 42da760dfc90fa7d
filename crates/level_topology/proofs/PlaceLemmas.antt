-- Items of lists of places, of filtered lists and of the sides of a polygon.
use Rattle.std.proofs.Common.{◌≡◌, ◌≢◌, ℕ, zero, suc, ◌+◌, ◌<◌, ◌≤◌, Bool, true, false, nat_eq, List, [], ◌∷◌, length, map, get_or, arith, refl, ap, ◌∙◌}
use Rattle.std.specs.List.{filter, list_any, count_by, sum_by}
use Rattle.std.specs.List.Sorted.{IsPermutation}
use Rattle.std.proofs.lemmas.Bool.Decides.{nat_tests}
use Rattle.std.proofs.lemmas.Bool.{eqb-true, eq-eqb}
use Rattle.std.proofs.lemmas.List.{get_or_past, get_or_default}
use Rattle.std.proofs.lemmas.List.Sums.{sum_by-cons}
use Rattle.std.proofs.lemmas.List.Sorted.{sum_by-IsPermutation}
use Rattle.subdiv_model.specs.Polygons.{Polygon, sides_of, sides_back_to, is_distinct}
use Rattle.subdiv_model.specs.Lists.{places_from}
use Rattle.number_laws.proofs.CountLemmas.{count-cons, count-some, any-count, one_if, one-yes}
use Rattle.mesh_laws.proofs.SideLemmas.{distinct-number-count}
use Rattle.level_topology.specs.Topology.{side_at}

-- Each place has an item that passes.
pub places-item : {X : Type 0} (test : X → Bool) (d : X) (place : ℕ) (xs : List X) (k : ℕ) → k < length (places_from place test xs) → (j : ℕ) × (j < length xs) × (get_or (places_from place test xs) k 0 ≡ place + j) × (test (get_or xs j d) ≡ true)
places-item test d place [] k h = absurd (omega arith)
places-item test d place (x ∷ xs) k h = here (test x) refl k h (places-item test d (place + 1) xs)
  where
    later : (k : ℕ) → ((j : ℕ) × (j < length xs) × (get_or (places_from (place + 1) test xs) k 0 ≡ place + 1 + j) × (test (get_or xs j d) ≡ true)) → (j : ℕ) × (j < length (x ∷ xs)) × (get_or (places_from (place + 1) test xs) k 0 ≡ place + j) × (test (get_or (x ∷ xs) j d) ≡ true)
    later k found = (suc found.0, omega (arith, found.1), omega (arith, found.2), found.3)

    here : (b : Bool) → test x ≡ b → (k : ℕ) → k < length (places_from place test (x ∷ xs)) → ((k : ℕ) → k < length (places_from (place + 1) test xs) → (j : ℕ) × (j < length xs) × (get_or (places_from (place + 1) test xs) k 0 ≡ place + 1 + j) × (test (get_or xs j d) ≡ true)) → (j : ℕ) × (j < length (x ∷ xs)) × (get_or (places_from place test (x ∷ xs)) k 0 ≡ place + j) × (test (get_or (x ∷ xs) j d) ≡ true)
    here true e zero h behind = (0, omega arith, rw e (omega arith), e)
    here true e (suc k) h behind =
        let within : suc k < length (place ∷ places_from (place + 1) test xs) = rw e at h in
        rw e (later k (behind k (omega (arith, within))))
    here false e k h behind =
        let within : k < length (places_from (place + 1) test xs) = rw e at h in
        rw e (later k (behind k within))

-- places ascend
pub places-ascend : {X : Type 0} (test : X → Bool) (d : X) (place : ℕ) (xs : List X) (k : ℕ) → suc k < length (places_from place test xs) → get_or (places_from place test xs) k 0 < get_or (places_from place test xs) (suc k) 0
places-ascend test d place [] k h = absurd (omega arith)
places-ascend test d place (x ∷ xs) k h = here (test x) refl k h (places-ascend test d (place + 1) xs)
  where
    here : (b : Bool) → test x ≡ b → (k : ℕ) → suc k < length (places_from place test (x ∷ xs)) → ((k : ℕ) → suc k < length (places_from (place + 1) test xs) → get_or (places_from (place + 1) test xs) k 0 < get_or (places_from (place + 1) test xs) (suc k) 0) → get_or (places_from place test (x ∷ xs)) k 0 < get_or (places_from place test (x ∷ xs)) (suc k) 0
    here true e zero h behind =
        let within : 1 < length (place ∷ places_from (place + 1) test xs) = rw e at h in
        let found = places-item test d (place + 1) xs 0 (omega (arith, within)) in
        rw e (omega (arith, found.2))
    here true e (suc k) h behind =
        let within : suc (suc k) < length (place ∷ places_from (place + 1) test xs) = rw e at h in
        rw e (behind k (omega (arith, within)))
    here false e k h behind =
        let within : suc k < length (places_from (place + 1) test xs) = rw e at h in
        rw e (behind k within)

-- each item of a filtered list passes, and is one of the list
pub filter-item : {X : Type 0} (test : X → Bool) (d : X) (xs : List X) (k : ℕ) → k < length (filter test xs) → (j : ℕ) × (j < length xs) × (get_or (filter test xs) k d ≡ get_or xs j d) × (test (get_or xs j d) ≡ true)
filter-item test d [] k h = absurd (omega arith)
filter-item test d (x ∷ xs) k h = here (test x) refl k h (filter-item test d xs)
  where
    later : (k : ℕ) → ((j : ℕ) × (j < length xs) × (get_or (filter test xs) k d ≡ get_or xs j d) × (test (get_or xs j d) ≡ true)) → (j : ℕ) × (j < length (x ∷ xs)) × (get_or (filter test xs) k d ≡ get_or (x ∷ xs) j d) × (test (get_or (x ∷ xs) j d) ≡ true)
    later k found = (suc found.0, omega (arith, found.1), found.2, found.3)

    here : (b : Bool) → test x ≡ b → (k : ℕ) → k < length (filter test (x ∷ xs)) → ((k : ℕ) → k < length (filter test xs) → (j : ℕ) × (j < length xs) × (get_or (filter test xs) k d ≡ get_or xs j d) × (test (get_or xs j d) ≡ true)) → (j : ℕ) × (j < length (x ∷ xs)) × (get_or (filter test (x ∷ xs)) k d ≡ get_or (x ∷ xs) j d) × (test (get_or (x ∷ xs) j d) ≡ true)
    here true e zero h behind = (0, omega arith, rw e refl, e)
    here true e (suc k) h behind =
        let within : suc k < length (x ∷ filter test xs) = rw e at h in
        rw e (later k (behind k (omega (arith, within))))
    here false e k h behind =
        let within : k < length (filter test xs) = rw e at h in
        rw e (later k (behind k within))

-- two items that pass are counted twice
pub two-count : {X : Type 0} (test : X → Bool) (d : X) (xs : List X) (i j : ℕ) → i < j → j < length xs → test (get_or xs i d) ≡ true → test (get_or xs j d) ≡ true → 2 ≤ count_by test xs
two-count test d [] i j h k p q = absurd (omega arith)
two-count test d (x ∷ xs) i zero h k p q = absurd (omega arith)
two-count test d (x ∷ xs) zero (suc j) h k p q =
    let there : list_any test xs ≡ true = any-item test d xs j (omega arith) q in
    omega (arith, count-cons test x xs, one-yes (test x) p, count-some test xs there)
  where
    any-item : {X : Type 0} (test : X → Bool) (d : X) (xs : List X) (j : ℕ) → j < length xs → test (get_or xs j d) ≡ true → list_any test xs ≡ true
    any-item test d [] j h q = absurd (omega arith)
    any-item test d (x ∷ xs) zero h q = grind (arith, nat_tests)
    any-item test d (x ∷ xs) (suc j) h q = let behind = any-item test d xs j (omega arith) q in grind (arith, nat_tests)
two-count test d (x ∷ xs) (suc i) (suc j) h k p q = omega (arith, count-cons test x xs, two-count test d xs i j (omega arith) (omega arith) p q)

-- numbers that ascend are distinct
pub count-sum : {X : Type 0} (test : X → Bool) (xs : List X) → sum_by (λ x. one_if (test x)) xs ≡ count_by test xs
count-sum test [] = refl
count-sum test (x ∷ xs) = omega (arith, count-sum test xs, count-cons test x xs, sum_by-cons (λ y. one_if (test y)) x xs)

distinct-from_counts : (numbers : List ℕ) → ((n : ℕ) → count_by (nat_eq n) numbers ≤ 1) → is_distinct numbers ≡ true
distinct-from_counts [] h = refl
distinct-from_counts (m ∷ numbers) h =
    let first : one_if (nat_eq m m) ≡ 1 = one-yes _ (eq-eqb m m refl) in
    let none : count_by (nat_eq m) numbers ≡ 0 = omega (arith, count-cons (nat_eq m) m numbers, first, h m) in
    let behind = distinct-from_counts numbers (λ n. omega (arith, count-cons (nat_eq n) m numbers, h n)) in
    grind (arith, nat_tests, any-count (nat_eq m) numbers)

-- a rearrangement of distinct numbers is distinct
pub distinct-permutation : (xs ys : List ℕ) → IsPermutation xs ys → is_distinct xs ≡ true → is_distinct ys ≡ true
distinct-permutation xs ys moved distinct = distinct-from_counts ys (λ n.
    omega (arith, distinct-number-count n xs distinct, count-sum (nat_eq n) xs, count-sum (nat_eq n) ys, sum_by-IsPermutation (λ x. one_if (nat_eq n x)) xs ys moved))

back-at : (first : ℕ) (path : Polygon) (c : ℕ) → c < length path → get_or (sides_back_to first path) c (0, 0) ≡ (get_or path c 0, get_or path (suc c) first)
back-at first [] c h = absurd (omega arith)
back-at first (v ∷ rest) zero h = refl
back-at first (v ∷ rest) (suc c) h = back-at first rest c (omega arith)

-- the side of a polygon at a corner
pub side-there : (polygon : Polygon) (c : ℕ) → c < length polygon → get_or (sides_of polygon) c (0, 0) ≡ side_at polygon c
side-there [] c h = absurd (omega arith)
side-there (v ∷ rest) c h = back-at v (v ∷ rest) c h ∙ last (nat_eq (c + 1) (length (v ∷ rest))) refl
  where
    last : (b : Bool) → nat_eq (c + 1) (length (v ∷ rest)) ≡ b → (get_or (v ∷ rest) c 0, get_or (v ∷ rest) (suc c) v) ≡ side_at (v ∷ rest) c
    last true e =
        let n : c + 1 ≡ length (v ∷ rest) = eqb-true _ _ e in
        let past : get_or (v ∷ rest) (suc c) v ≡ v = get_or_past (v ∷ rest) (suc c) v (omega arith) in
        rw (e, past) refl
    last false e =
        let n : suc c ≡ c + 1 = omega arith in
        let ne : c + 1 ≢ length (v ∷ rest) = λ same. absurd (let yes = eq-eqb (c + 1) (length (v ∷ rest)) same in cc) in
        let within : suc c < length (v ∷ rest) = omega arith in
        rw e (ap (λ x. (get_or (v ∷ rest) c 0, x)) (get_or_default (v ∷ rest) (suc c) v 0 within ∙ ap (λ k. get_or (v ∷ rest) k 0) n))

-- If the numbers of items are their places, the numbers of the items that pass are the places of those items.
pub numbers-places : {X : Type 0} (number : X → ℕ) (test : X → Bool) (d : X) (place : ℕ) (xs : List X) → ((j : ℕ) → j < length xs → number (get_or xs j d) ≡ place + j) → map number (filter test xs) ≡ places_from place test xs
numbers-places number test d place [] h = refl
numbers-places number test d place (x ∷ xs) h =
    here (test x) refl (numbers-places number test d (place + 1) xs (λ j inside. omega (arith, h (suc j) (omega arith))))
  where
    here : (b : Bool) → test x ≡ b → map number (filter test xs) ≡ places_from (place + 1) test xs → map number (filter test (x ∷ xs)) ≡ places_from place test (x ∷ xs)
    here true e behind = let first : number x ≡ place = omega (arith, h 0 (omega arith)) in rw e (cc)
    here false e behind = rw e behind
