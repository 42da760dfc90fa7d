-- Ascending numbers: a number that occurs again gap places later occurs more than gap times.
use Rattle.std.proofs.Common.{◌≡◌, ℕ, zero, suc, ◌+◌, ◌^◌, ◌<◌, Bool, true, false, ◌&&◌, nat_eq, nat_le, nat_lt, List, [], ◌∷◌, map, arith, refl, ap, sym, ◌∙◌, cond}
use Rattle.std.specs.List.{list_all, count_by, filter, find}
use Rattle.std.specs.List.Sorted.{IsPermutation}
use Rattle.std.proofs.lemmas.Bool.Decides.{nat_tests}
use Rattle.std.proofs.lemmas.Bool.{and_parts, and_from, eqb-true}
use Rattle.std.proofs.lemmas.List.Sorted.{sum_by-IsPermutation}
use Rattle.subdiv_model.specs.Polygons.{same_side, same_edge, is_among}
use Rattle.number_laws.proofs.CountLemmas.{count-cons, one_if}
use Rattle.level_builder.specs.NumberedEdges.{low_first}
use Rattle.level_builder.proofs.EdgeNumberLemmas.{low-same}
use Rattle.level_builder.specs.Keys.{IsWord, AreWords, side_key, edge_key, Rises, is_again, repeats}

-- a number below all is below the kept ones
below-repeats : (gap n : ℕ) (xs : List ℕ) → list_all (nat_le n) xs ≡ true → list_all (nat_le n) (repeats gap xs) ≡ true
below-repeats gap n [] h = refl
below-repeats gap n (x ∷ xs) h =
    let parts = and_parts (nat_le n x) (list_all (nat_le n) xs) h in
    let behind = below-repeats gap n xs parts.1 in
    go (is_again gap (x ∷ xs) x) refl parts.0 behind
  where
    go : (b : Bool) → is_again gap (x ∷ xs) x ≡ b → nat_le n x ≡ true → list_all (nat_le n) (repeats gap xs) ≡ true → list_all (nat_le n) (repeats gap (x ∷ xs)) ≡ true
    go true e first behind = rw e (and_from _ _ first behind)
    go false e first behind = rw e behind

-- the kept numbers ascend
pub repeats-rise : (gap : ℕ) (xs : List ℕ) → Rises xs → Rises (repeats gap xs)
repeats-rise gap [] h = h
repeats-rise gap (x ∷ xs) h = go (is_again gap (x ∷ xs) x) refl (below-repeats gap x xs h.0) (repeats-rise gap xs h.1)
  where
    go : (b : Bool) → is_again gap (x ∷ xs) x ≡ b → list_all (nat_le x) (repeats gap xs) ≡ true → Rises (repeats gap xs) → Rises (repeats gap (x ∷ xs))
    go true e below behind = rw e (below, behind)
    go false e below behind = rw e behind

-- a number below all others is not among them
none-below : (n m : ℕ) (xs : List ℕ) → n < m → list_all (nat_le m) xs ≡ true → count_by (nat_eq n) xs ≡ 0
none-below n m [] h below = refl
none-below n m (x ∷ xs) h below =
    let parts = and_parts (nat_le m x) (list_all (nat_le m) xs) below in
    let behind = none-below n m xs h parts.1 in
    let apart : one_if (nat_eq n x) ≡ 0 = differ (grind (arith, nat_tests)) in
    omega (arith, count-cons (nat_eq n) x xs, behind, apart)
  where
    differ : nat_eq n x ≡ false → one_if (nat_eq n x) ≡ 0
    differ e = ap one_if e

-- the least number is at the place gap exactly where it occurs more than gap times
pub again-count : (gap n : ℕ) (xs : List ℕ) → list_all (nat_le n) xs ≡ true → Rises xs → is_again gap xs n ≡ nat_lt gap (count_by (nat_eq n) xs)
again-count gap n [] below rises = grind (arith, nat_tests)
again-count gap n (m ∷ ms) below rises = go gap (nat_eq n m) refl (λ g. again-count g n ms (and_parts (nat_le n m) (list_all (nat_le n) ms) below).1 rises.1)
  where
    least : nat_le n m ≡ true
    least = (and_parts (nat_le n m) (list_all (nat_le n) ms) below).0

    none : nat_eq n m ≡ false → count_by (nat_eq n) (m ∷ ms) ≡ 0
    none e =
        let less : n < m = grind (arith, nat_tests, least) in
        let behind = none-below n m ms less rises.0 in
        let first : one_if (nat_eq n m) ≡ 0 = ap one_if e in
        omega (arith, count-cons (nat_eq n) m ms, behind, first)

    one : nat_eq n m ≡ true → count_by (nat_eq n) (m ∷ ms) ≡ 1 + count_by (nat_eq n) ms
    one e =
        let first : one_if (nat_eq n m) ≡ 1 = ap one_if e in
        omega (arith, count-cons (nat_eq n) m ms, first)

    nothing : (g : ℕ) → nat_eq n m ≡ false → is_again g ms n ≡ nat_lt g (count_by (nat_eq n) ms) → is_again (suc g) (m ∷ ms) n ≡ false
    nothing g e behind =
        let less : n < m = grind (arith, nat_tests, least) in
        let zeros = none-below n m ms less rises.0 in
        grind (arith, nat_tests)

    go : (g : ℕ) (b : Bool) → nat_eq n m ≡ b → ((k : ℕ) → is_again k ms n ≡ nat_lt k (count_by (nat_eq n) ms)) → is_again g (m ∷ ms) n ≡ nat_lt g (count_by (nat_eq n) (m ∷ ms))
    go zero true e behind = let o = one e in grind (arith, nat_tests)
    go zero false e behind = let o = none e in grind (arith, nat_tests)
    go (suc g) true e behind = let o = one e in let b = behind g in grind (arith, nat_tests)
    go (suc g) false e behind = let o = none e in let b = nothing g e (behind g) in grind (arith, nat_tests)

-- the kept numbers are those that occur more than gap times
pub repeats-count : (gap n : ℕ) (xs : List ℕ) → Rises xs → is_among (repeats gap xs) n ≡ nat_lt gap (count_by (nat_eq n) xs)
repeats-count gap n [] rises = grind (arith, nat_tests)
repeats-count gap n (x ∷ xs) rises =
    let itself : nat_le x x ≡ true = grind (arith, nat_tests) in
    go (is_again gap (x ∷ xs) x) refl (again-count gap x (x ∷ xs) (and_from _ _ itself rises.0) rises) (nat_eq n x) refl (repeats-count gap n xs rises.1)
  where
    apart : nat_eq n x ≡ false → count_by (nat_eq n) (x ∷ xs) ≡ count_by (nat_eq n) xs
    apart e = let first : one_if (nat_eq n x) ≡ 0 = ap one_if e in omega (arith, count-cons (nat_eq n) x xs, first)

    more : nat_eq n x ≡ true → count_by (nat_eq n) (x ∷ xs) ≡ 1 + count_by (nat_eq n) xs
    more e = let first : one_if (nat_eq n x) ≡ 1 = ap one_if e in omega (arith, count-cons (nat_eq n) x xs, first)

    same : nat_eq n x ≡ true → count_by (nat_eq x) (x ∷ xs) ≡ count_by (nat_eq n) (x ∷ xs)
    same e = ap (λ k. count_by (nat_eq k) (x ∷ xs)) (sym (eqb-true n x e))

    go : (b : Bool) → is_again gap (x ∷ xs) x ≡ b → is_again gap (x ∷ xs) x ≡ nat_lt gap (count_by (nat_eq x) (x ∷ xs)) → (c : Bool) → nat_eq n x ≡ c → is_among (repeats gap xs) n ≡ nat_lt gap (count_by (nat_eq n) xs) → is_among (repeats gap (x ∷ xs)) n ≡ nat_lt gap (count_by (nat_eq n) (x ∷ xs))
    go true e counted true f behind = let m = more f in let s = same f in rw e (grind (arith, nat_tests))
    go true e counted false f behind = let m = apart f in rw e (grind (arith, nat_tests))
    go false e counted true f behind = let m = more f in let s = same f in rw e (grind (arith, nat_tests))
    go false e counted false f behind = let m = apart f in rw e (grind (arith, nat_tests))

-- the order does not matter to a count
pub count-moved : (p : ℕ → Bool) (xs ys : List ℕ) → IsPermutation xs ys → count_by p ys ≡ count_by p xs
count-moved p xs ys h = sum_by-IsPermutation (λ x. cond (p x) 1 0) xs ys h

-- two sides have one number exactly where they are one
pub side-key-same : (s t : ℕ × ℕ) → s.1 < 2 ^ 32 → t.1 < 2 ^ 32 → nat_eq (side_key s) (side_key t) ≡ same_side s t
side-key-same s t h k = go (nat_eq s.0 t.0) refl (nat_eq s.1 t.1) refl
  where
    go : (a : Bool) → nat_eq s.0 t.0 ≡ a → (b : Bool) → nat_eq s.1 t.1 ≡ b → nat_eq (side_key s) (side_key t) ≡ (nat_eq s.0 t.0 && nat_eq s.1 t.1)
    go a e b f = grind (arith, nat_tests)

low-second : (s : ℕ × ℕ) → IsWord s → (low_first s).1 < 2 ^ 32
low-second s h = go (nat_le s.0 s.1) refl
  where
    go : (a : Bool) → nat_le s.0 s.1 ≡ a → (low_first s).1 < 2 ^ 32
    go true e = rw e h.1
    go false e = rw e h.0

-- two edges have one number exactly where they are one
pub edge-key-same : (s t : ℕ × ℕ) → IsWord s → IsWord t → nat_eq (edge_key s) (edge_key t) ≡ same_edge s t
edge-key-same s t h k = side-key-same (low_first s) (low_first t) (low-second s h) (low-second t k) ∙ low-same s t

-- numbers of sides are counted as the sides are
pub count-keys : (key : ℕ × ℕ → ℕ) (same : ℕ × ℕ → ℕ × ℕ → Bool) → ((s t : ℕ × ℕ) → IsWord s → IsWord t → nat_eq (key s) (key t) ≡ same s t) → (s : ℕ × ℕ) → IsWord s → (sides : List (ℕ × ℕ)) → AreWords sides → count_by (nat_eq (key s)) (map key sides) ≡ count_by (same s) sides
count-keys key same agree s h [] words = refl
count-keys key same agree s h (t ∷ sides) words =
    let first : one_if (nat_eq (key s) (key t)) ≡ one_if (same s t) = ap one_if (agree s t h words.0) in
    omega (arith, count-cons (nat_eq (key s)) (key t) (map key sides), count-cons (same s) t sides, first, count-keys key same agree s h sides words.1)

-- tests that agree at each side find the same one
pub find-agree : (p q : ℕ × ℕ → Bool) → ((s : ℕ × ℕ) → IsWord s → p s ≡ q s) → (sides : List (ℕ × ℕ)) → AreWords sides → find p sides ≡ find q sides
find-agree p q agree [] words = refl
find-agree p q agree (s ∷ sides) words = rw (agree s words.0, find-agree p q agree sides words.1) refl

-- tests that agree at each side keep the same sides
pub filter-agree : (p q : ℕ × ℕ → Bool) → ((s : ℕ × ℕ) → IsWord s → p s ≡ q s) → (sides : List (ℕ × ℕ)) → AreWords sides → filter p sides ≡ filter q sides
filter-agree p q agree [] words = refl
filter-agree p q agree (s ∷ sides) words = rw (agree s words.0, filter-agree p q agree sides words.1) refl
