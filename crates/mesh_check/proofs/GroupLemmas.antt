-- The faces at a vertex are one fan exactly where their places form one chain.
use Rattle.std.proofs.Common.{◌≡◌, ℕ, ◌<◌, ◌≤◌, Bool, true, false, not, ◌||◌, nat_eq, nat_lt, List, [], ◌∷◌, length, map, get_or, arith, refl, ap, sym, subst, ◌∙◌, Result, Ok, Err}
use Rattle.std.specs.List.{position_or_len}
use Rattle.std.specs.List.Sorted.{IsBinarySearchResult}
use Rattle.std.specs.Ordering.{nat_cmp}
use Rattle.std.specs.Result.{MatchResult}
use Rattle.std.proofs.lemmas.Bool.Decides.{nat_tests}
use Rattle.std.proofs.lemmas.Bool.{and_parts, and_from, eqb-true, eq-eqb, not-true}
use Rattle.std.proofs.lemmas.List.Sums.{position_or_len_is}
use Rattle.std.proofs.lemmas.List.Sorted.{searched}
use Rattle.subdiv_model.specs.Polygons.{is_among, is_distinct}
use Rattle.mesh_laws.proofs.SideLemmas.{distinct-places}
use Rattle.level_topology.proofs.FanOrderLemmas.{among-at}
use Rattle.level_builder.specs.Keys.{Rises}
use Rattle.level_builder.proofs.SearchLemmas.{rise-at}

-- distinct numbers have each its place
pub own-place : (xs : List ℕ) (i : ℕ) (x : ℕ) → is_distinct xs ≡ true → i < length xs → get_or xs i 0 ≡ x → position_or_len (nat_eq x) xs ≡ i
own-place xs i x once h is = position_or_len_is (nat_eq x) xs i 0 (omega arith) (λ k less. apart k less (nat_eq x (get_or xs k 0)) refl) (λ inside. eq-eqb x (get_or xs i 0) (sym is))
  where
    apart : (k : ℕ) → k < i → (b : Bool) → nat_eq x (get_or xs k 0) ≡ b → nat_eq x (get_or xs k 0) ≡ false
    apart k less false e = e
    apart k less true e =
        let same = distinct-places xs k i once (omega arith) h (sym (eqb-true x (get_or xs k 0) e) ∙ sym is) in
        absurd (omega (arith, same, less))

-- a number among others is at its place
pub place-of : (x : ℕ) (xs : List ℕ) → is_distinct xs ≡ true → is_among xs x ≡ true → (position_or_len (nat_eq x) xs < length xs) × (get_or xs (position_or_len (nat_eq x) xs) 0 ≡ x)
place-of x xs once there =
    let found = among-at x xs there in
    let at : position_or_len (nat_eq x) xs ≡ found.0 = own-place xs found.0 x once found.1 found.2 in
    (subst (λ k. k < length xs) (sym at) found.1, ap (λ k. get_or xs k 0) at ∙ found.2)

-- a search finds the place of a number, or the length if the number is not there
pub place-searched : (xs : List ℕ) (x : ℕ) (r : Result ℕ ℕ) → IsBinarySearchResult (λ y. nat_cmp y x) xs r → Rises xs → is_distinct xs ≡ true → MatchResult r (λ i. i ≡ position_or_len (nat_eq x) xs) (λ i. length xs ≡ position_or_len (nat_eq x) xs)
place-searched xs x r found rises once = go r (searched xs x r found (rise-at xs rises))
  where
    go : (r : Result ℕ ℕ) → MatchResult r (λ i. (i < length xs) × (get_or xs i 0 ≡ x)) (λ i. (i ≤ length xs) × ((k : ℕ) → k < i → get_or xs k 0 < x) × ((k : ℕ) → i ≤ k → k < length xs → x < get_or xs k 0)) → MatchResult r (λ i. i ≡ position_or_len (nat_eq x) xs) (λ i. length xs ≡ position_or_len (nat_eq x) xs)
    go (Ok i) h = sym (own-place xs i x once h.0 h.1)
    go (Err i) h = sym (position_or_len_is (nat_eq x) xs (length xs) 0 (omega arith) (λ k less. other k (nat_lt k i) refl less) (λ k. absurd (omega arith)))
      where
        below : (y : ℕ) → y < x → nat_eq x y ≡ false
        below y e = grind (arith, nat_tests)

        above : (y : ℕ) → x < y → nat_eq x y ≡ false
        above y e = grind (arith, nat_tests)

        other : (k : ℕ) (c : Bool) → nat_lt k i ≡ c → k < length xs → nat_eq x (get_or xs k 0) ≡ false
        other k true e inside = below (get_or xs k 0) (h.1 k (grind (arith, nat_tests)))
        other k false e inside = above (get_or xs k 0) (h.2 k (grind (arith, nat_tests)) inside)

-- a map of a list has the value of each number in the list
pub among-map : (f : ℕ → ℕ) (xs : List ℕ) (a : ℕ) → is_among xs a ≡ true → is_among (map f xs) (f a) ≡ true
among-map f [] a h = absurd (cc)
among-map f (x ∷ xs) a h = go (nat_eq a x) refl (λ k. among-map f xs a k)
  where
    go : (b : Bool) → nat_eq a x ≡ b → (is_among xs a ≡ true → is_among (map f xs) (f a) ≡ true) → is_among (map f (x ∷ xs)) (f a) ≡ true
    go true e behind = ap (λ b. b || is_among (map f xs) (f a)) (eq-eqb (f a) (f x) (ap f (eqb-true a x e)))
    go false e behind =
        let there : is_among xs a ≡ true = grind (arith, nat_tests) in
        let more = behind there in
        grind (arith, nat_tests)

-- each number in a map of a list is the value of a number in the list
pub map-among : (f : ℕ → ℕ) (xs : List ℕ) (y : ℕ) → is_among (map f xs) y ≡ true → (a : ℕ) × (is_among xs a ≡ true) × (f a ≡ y)
map-among f [] y h = absurd (cc)
map-among f (x ∷ xs) y h = go (nat_eq y (f x)) refl (λ k. map-among f xs y k)
  where
    go : (b : Bool) → nat_eq y (f x) ≡ b → (is_among (map f xs) y ≡ true → (a : ℕ) × (is_among xs a ≡ true) × (f a ≡ y)) → (a : ℕ) × (is_among (x ∷ xs) a ≡ true) × (f a ≡ y)
    go true e behind = (x, ap (λ b. b || is_among xs x) (eq-eqb x x refl), sym (eqb-true y (f x) e))
    go false e behind =
        let there : is_among (map f xs) y ≡ true = grind (arith, nat_tests) in
        let found = behind there in
        (found.0, (let more = found.1 in grind (arith, nat_tests)), found.2)

-- a map that keeps numbers apart keeps a list distinct
pub distinct-map : (f : ℕ → ℕ) (xs : List ℕ) → ((a b : ℕ) → is_among xs a ≡ true → is_among xs b ≡ true → f a ≡ f b → a ≡ b) → is_distinct xs ≡ true → is_distinct (map f xs) ≡ true
distinct-map f [] apart once = refl
distinct-map f (x ∷ xs) apart once =
    let parts = and_parts (not (is_among xs x)) (is_distinct xs) once in
    and_from _ _ (out (is_among (map f xs) (f x)) refl (not-true (is_among xs x) parts.0)) (distinct-map f xs (λ a b h k e. apart a b (grind (arith, nat_tests)) (grind (arith, nat_tests)) e) parts.1)
  where
    self : is_among (x ∷ xs) x ≡ true
    self = ap (λ b. b || is_among xs x) (eq-eqb x x refl)

    out : (b : Bool) → is_among (map f xs) (f x) ≡ b → is_among xs x ≡ false → not (is_among (map f xs) (f x)) ≡ true
    out false e none = ap not e
    out true e none =
        let found = map-among f xs (f x) e in
        let within : is_among (x ∷ xs) found.0 ≡ true = (let more = found.1 in grind (arith, nat_tests)) in
        let same : found.0 ≡ x = apart found.0 x within self found.2 in
        let there : is_among xs x ≡ true = sym (ap (is_among xs) same) ∙ found.1 in
        absurd (cc)
