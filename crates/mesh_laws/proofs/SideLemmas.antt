-- Sides and edges: when two are the same, how often a side occurs, and how a polygon's sides follow each other.
use Rattle.std.proofs.Common.{◌≡◌, ℕ, zero, suc, ◌+◌, ◌<◌, ◌≤◌, Bool, true, false, not, nat_eq, nat_le, List, [], ◌∷◌, length, get_or, arith, refl, ap, sym, ◌∙◌, ◌⊎◌, inl, inr}
use Rattle.std.specs.List.{list_any, count_by}
use Rattle.std.proofs.lemmas.Bool.Decides.{nat_tests}
use Rattle.std.proofs.lemmas.Bool.{and_parts, eqb-true, not-true, false_from_ne_true}
use Rattle.subdiv_model.specs.Polygons.{Polygon, same_side, same_edge, sides_back_to, sides_of, has_side, has_distinct_sides, is_distinct, is_among}
use Rattle.subdiv_model.specs.Manifold.{is_simple}
use Rattle.number_laws.proofs.CountLemmas.{count-cons, count-none, count-agree, any-count, one_if}

pub same_side-refl : (s : ℕ × ℕ) → same_side s s ≡ true
same_side-refl s = grind (arith, nat_tests)

pub same_edge-refl : (s : ℕ × ℕ) → same_edge s s ≡ true
same_edge-refl s = grind (arith, nat_tests)

pub same_edge-sym : (s t : ℕ × ℕ) → same_edge s t ≡ same_edge t s
same_edge-sym s t = grind (arith, nat_tests)

pub same_edge-trans : (s t u : ℕ × ℕ) → same_edge s t ≡ true → same_edge t u ≡ true → same_edge s u ≡ true
same_edge-trans s t u a b = grind (arith, nat_tests)

-- equal sides are the same edge to all others
pub same_side-alike : (s t u : ℕ × ℕ) → same_side s t ≡ true → same_side s u ≡ same_side t u
same_side-alike s t u h = grind (arith, nat_tests)

pub same_edge-alike : (s t u : ℕ × ℕ) → same_edge s t ≡ true → same_edge s u ≡ same_edge t u
same_edge-alike s t u h = grind (arith, nat_tests)

-- no side occurs twice: each side is counted once at most
pub distinct-count : (s : ℕ × ℕ) (sides : List (ℕ × ℕ)) → has_distinct_sides sides ≡ true → count_by (same_side s) sides ≤ 1
distinct-count s [] h = omega arith
distinct-count s (t ∷ sides) h =
    let parts = and_parts (not (list_any (same_side t) sides)) (has_distinct_sides sides) h in
    let none : count_by (same_side t) sides ≡ 0 = count-none (same_side t) sides (not-true _ parts.0) in
    let behind = distinct-count s sides parts.1 in
    here (same_side s t) refl none behind
  where
    here : (b : Bool) → same_side s t ≡ b → count_by (same_side t) sides ≡ 0 → count_by (same_side s) sides ≤ 1 → count_by (same_side s) (t ∷ sides) ≤ 1
    here true e none behind =
        let alike : count_by (same_side s) sides ≡ count_by (same_side t) sides = count-agree (same_side s) (same_side t) (λ u. same_side-alike s t u e) sides in
        let first : one_if (same_side s t) ≡ 1 = ap one_if e in
        omega (arith, count-cons (same_side s) t sides, first)
    here false e none behind =
        let first : one_if (same_side s t) ≡ 0 = ap one_if e in
        omega (arith, count-cons (same_side s) t sides, first)

pub distinct-from_count : (sides : List (ℕ × ℕ)) → ((s : ℕ × ℕ) → count_by (same_side s) sides ≤ 1) → has_distinct_sides sides ≡ true
distinct-from_count [] h = refl
distinct-from_count (t ∷ sides) h =
    let first : one_if (same_side t t) ≡ 1 = ap one_if (same_side-refl t) in
    let none : count_by (same_side t) sides ≡ 0 = omega (arith, count-cons (same_side t) t sides, first, h t) in
    let behind = distinct-from_count sides (λ s. omega (arith, count-cons (same_side s) t sides, h s)) in
    grind (arith, nat_tests, any-count (same_side t) sides)

-- the places at which a side starts and ends, where `first` follows the path
pub side-place : (first : ℕ) (path : Polygon) (s : ℕ × ℕ) → list_any (same_side s) (sides_back_to first path) ≡ true → (i : ℕ) × (i < length path) × (get_or path i 0 ≡ s.0) × (get_or path (suc i) first ≡ s.1)
side-place first [] s h = cc
side-place first (v ∷ rest) s h = here (same_side s (v, get_or rest 0 first)) refl (λ k. side-place first rest s k)
  where
    here : (b : Bool) → same_side s (v, get_or rest 0 first) ≡ b → (list_any (same_side s) (sides_back_to first rest) ≡ true → (i : ℕ) × (i < length rest) × (get_or rest i 0 ≡ s.0) × (get_or rest (suc i) first ≡ s.1)) → (i : ℕ) × (i < length (v ∷ rest)) × (get_or (v ∷ rest) i 0 ≡ s.0) × (get_or (v ∷ rest) (suc i) first ≡ s.1)
    here true e behind =
        let parts = and_parts (nat_eq s.0 v) (nat_eq s.1 (get_or rest 0 first)) e in
        (0, omega arith, sym (eqb-true _ _ parts.0), sym (eqb-true _ _ parts.1))
    here false e behind =
        let more : list_any (same_side s) (sides_back_to first rest) ≡ true = grind (arith, nat_tests) in
        let found = behind more in
        (suc found.0, omega (arith, found.1), found.2, found.3)

pub among-place : (v : ℕ) (numbers : List ℕ) (i : ℕ) → i < length numbers → get_or numbers i 0 ≡ v → is_among numbers v ≡ true
among-place v [] i h e = absurd (omega arith)
among-place v (n ∷ numbers) zero h e = grind (arith, nat_tests)
among-place v (n ∷ numbers) (suc i) h e = let behind = among-place v numbers i (omega arith) e in grind (arith, nat_tests)

-- distinct numbers have one place each
pub distinct-places : (numbers : List ℕ) (i j : ℕ) → is_distinct numbers ≡ true → i < length numbers → j < length numbers → get_or numbers i 0 ≡ get_or numbers j 0 → i ≡ j
distinct-places [] i j d h k e = absurd (omega arith)
distinct-places (n ∷ numbers) zero zero d h k e = refl
distinct-places (n ∷ numbers) zero (suc j) d h k e =
    let there = among-place n numbers j (omega arith) (sym e) in absurd (grind (arith, nat_tests))
distinct-places (n ∷ numbers) (suc i) zero d h k e =
    let there = among-place n numbers i (omega arith) e in absurd (grind (arith, nat_tests))
distinct-places (n ∷ numbers) (suc i) (suc j) d h k e =
    let parts = and_parts (not (is_among numbers n)) (is_distinct numbers) d in
    ap suc (distinct-places numbers i j parts.1 (omega arith) (omega arith) e)

-- after the last corner of a polygon comes the first one
pub next-corner : (v : ℕ) (rest : Polygon) (i : ℕ) → i < length (v ∷ rest) → ((suc i < length (v ∷ rest)) × (get_or (v ∷ rest) (suc i) v ≡ get_or (v ∷ rest) (suc i) 0)) ⊎ ((suc i ≡ length (v ∷ rest)) × (get_or (v ∷ rest) (suc i) v ≡ v))
next-corner v [] zero h = inr (refl, refl)
next-corner v [] (suc i) h = absurd (omega arith)
next-corner v (w ∷ rest) zero h = inl (omega arith, refl)
next-corner v (w ∷ rest) (suc i) h = further (next-corner v rest i (omega arith))
  where
    further : (((suc i < length (v ∷ rest)) × (get_or (v ∷ rest) (suc i) v ≡ get_or (v ∷ rest) (suc i) 0)) ⊎ ((suc i ≡ length (v ∷ rest)) × (get_or (v ∷ rest) (suc i) v ≡ v))) → ((suc (suc i) < length (v ∷ (w ∷ rest))) × (get_or (v ∷ (w ∷ rest)) (suc (suc i)) v ≡ get_or (v ∷ (w ∷ rest)) (suc (suc i)) 0)) ⊎ ((suc (suc i) ≡ length (v ∷ (w ∷ rest))) × (get_or (v ∷ (w ∷ rest)) (suc (suc i)) v ≡ v))
    further (inl p) = inl (omega (arith, p.0), p.1)
    further (inr p) = inr (omega (arith, p.0), p.1)

-- a polygon of three or more distinct corners has no edge in both directions
pub no-side-back : (polygon : Polygon) (a b : ℕ) → is_simple polygon ≡ true → has_side (a, b) polygon ≡ true → has_side (b, a) polygon ≡ true → ⊥
no-side-back [] a b simple p q = cc
no-side-back (v ∷ rest) a b simple p q =
    let parts = and_parts (nat_le 3 (length (v ∷ rest))) (is_distinct (v ∷ rest)) simple in
    let long : 3 ≤ length (v ∷ rest) = grind (arith, nat_tests) in
    let at_a = side-place v (v ∷ rest) (a, b) p in
    let at_b = side-place v (v ∷ rest) (b, a) q in
    clash parts.1 long at_a.0 at_b.0 at_a.1 at_b.1 at_a.2 at_b.2 at_a.3 at_b.3 (next-corner v rest at_a.0 at_a.1) (next-corner v rest at_b.0 at_b.1)
  where
    place : (i j : ℕ) → is_distinct (v ∷ rest) ≡ true → i < length (v ∷ rest) → j < length (v ∷ rest) → get_or (v ∷ rest) i 0 ≡ get_or (v ∷ rest) j 0 → i ≡ j
    place i j d h k e = distinct-places (v ∷ rest) i j d h k e

    clash : is_distinct (v ∷ rest) ≡ true → 3 ≤ length (v ∷ rest) → (i j : ℕ) → i < length (v ∷ rest) → j < length (v ∷ rest) → get_or (v ∷ rest) i 0 ≡ a → get_or (v ∷ rest) j 0 ≡ b → get_or (v ∷ rest) (suc i) v ≡ b → get_or (v ∷ rest) (suc j) v ≡ a → ((suc i < length (v ∷ rest)) × (get_or (v ∷ rest) (suc i) v ≡ get_or (v ∷ rest) (suc i) 0)) ⊎ ((suc i ≡ length (v ∷ rest)) × (get_or (v ∷ rest) (suc i) v ≡ v)) → ((suc j < length (v ∷ rest)) × (get_or (v ∷ rest) (suc j) v ≡ get_or (v ∷ rest) (suc j) 0)) ⊎ ((suc j ≡ length (v ∷ rest)) × (get_or (v ∷ rest) (suc j) v ≡ v)) → ⊥
    clash d long i j hi hj ai bj bi aj (inl m) (inl n) =
        let e1 = place (suc i) j d m.0 hj (sym m.1 ∙ bi ∙ sym bj) in
        let e2 = place (suc j) i d n.0 hi (sym n.1 ∙ aj ∙ sym ai) in
        omega (arith, e1, e2)
    clash d long i j hi hj ai bj bi aj (inl m) (inr n) =
        let e1 = place (suc i) j d m.0 hj (sym m.1 ∙ bi ∙ sym bj) in
        let e2 = place 0 i d (omega arith) hi (sym n.1 ∙ aj ∙ sym ai) in
        omega (arith, e1, e2, n.0)
    clash d long i j hi hj ai bj bi aj (inr m) (inl n) =
        let e1 = place 0 j d (omega arith) hj (sym m.1 ∙ bi ∙ sym bj) in
        let e2 = place (suc j) i d n.0 hi (sym n.1 ∙ aj ∙ sym ai) in
        omega (arith, e1, e2, m.0)
    clash d long i j hi hj ai bj bi aj (inr m) (inr n) =
        let e1 = place 0 j d (omega arith) hj (sym m.1 ∙ bi ∙ sym bj) in
        let e2 = place 0 i d (omega arith) hi (sym n.1 ∙ aj ∙ sym ai) in
        omega (arith, e1, e2, m.0)

-- the edge of a side is counted in both directions
pub edge-count-le : (e : ℕ × ℕ) (sides : List (ℕ × ℕ)) → count_by (same_edge e) sides ≤ count_by (same_side e) sides + count_by (same_side (e.1, e.0)) sides
edge-count-le e [] = omega arith
edge-count-le e (s ∷ sides) =
    let behind = edge-count-le e sides in
    let here : one_if (same_edge e s) ≤ one_if (same_side e s) + one_if (same_side (e.1, e.0) s) = grind (arith, nat_tests) in
    omega (arith, count-cons (same_edge e) s sides, count-cons (same_side e) s sides, count-cons (same_side (e.1, e.0)) s sides)

pub edge-count : (e : ℕ × ℕ) (sides : List (ℕ × ℕ)) → nat_eq e.0 e.1 ≡ false → count_by (same_edge e) sides ≡ count_by (same_side e) sides + count_by (same_side (e.1, e.0)) sides
edge-count e [] proper = refl
edge-count e (s ∷ sides) proper =
    let behind = edge-count e sides proper in
    let here : one_if (same_edge e s) ≡ one_if (same_side e s) + one_if (same_side (e.1, e.0) s) = grind (arith, nat_tests) in
    omega (arith, count-cons (same_edge e) s sides, count-cons (same_side e) s sides, count-cons (same_side (e.1, e.0)) s sides)

pub distinct-number-count : (v : ℕ) (numbers : List ℕ) → is_distinct numbers ≡ true → count_by (nat_eq v) numbers ≤ 1
distinct-number-count v [] d = omega arith
distinct-number-count v (n ∷ numbers) d =
    let parts = and_parts (not (is_among numbers n)) (is_distinct numbers) d in
    here (nat_eq v n) refl (count-none (nat_eq n) numbers (not-true _ parts.0)) (distinct-number-count v numbers parts.1)
  where
    here : (b : Bool) → nat_eq v n ≡ b → count_by (nat_eq n) numbers ≡ 0 → count_by (nat_eq v) numbers ≤ 1 → count_by (nat_eq v) (n ∷ numbers) ≤ 1
    here true e none behind =
        let same : v ≡ n = eqb-true v n e in
        let alike : count_by (nat_eq v) numbers ≡ count_by (nat_eq n) numbers = ap (λ k. count_by (nat_eq k) numbers) same in
        let first : one_if (nat_eq v n) ≡ 1 = ap one_if e in
        omega (arith, count-cons (nat_eq v) n numbers, first)
    here false e none behind =
        let first : one_if (nat_eq v n) ≡ 0 = ap one_if e in
        omega (arith, count-cons (nat_eq v) n numbers, first)

-- each corner starts one side
side-count-le : (first : ℕ) (path : Polygon) (s : ℕ × ℕ) → count_by (same_side s) (sides_back_to first path) ≤ count_by (nat_eq s.0) path
side-count-le first [] s = omega arith
side-count-le first (v ∷ rest) s =
    let behind = side-count-le first rest s in
    let here : one_if (same_side s (v, get_or rest 0 first)) ≤ one_if (nat_eq s.0 v) = grind (arith, nat_tests) in
    omega (arith, count-cons (same_side s) (v, get_or rest 0 first) (sides_back_to first rest), count-cons (nat_eq s.0) v rest)

pub polygon-side-count : (polygon : Polygon) (s : ℕ × ℕ) → is_distinct polygon ≡ true → count_by (same_side s) (sides_of polygon) ≤ 1
polygon-side-count [] s d = omega arith
polygon-side-count (v ∷ rest) s d = omega (arith, side-count-le v (v ∷ rest) s, distinct-number-count s.0 (v ∷ rest) d)

-- a polygon of three or more distinct corners has each edge once at most
pub polygon-edge-count : (polygon : Polygon) (e : ℕ × ℕ) → is_simple polygon ≡ true → count_by (same_edge e) (sides_of polygon) ≤ 1
polygon-edge-count polygon e simple = here (has_side e polygon) refl
  where
    distinct : is_distinct polygon ≡ true
    distinct = (and_parts (nat_le 3 (length polygon)) (is_distinct polygon) simple).1

    here : (b : Bool) → has_side e polygon ≡ b → count_by (same_edge e) (sides_of polygon) ≤ 1
    here true h =
        let back : has_side (e.1, e.0) polygon ≡ false = false_from_ne_true _ (λ k. no-side-back polygon e.0 e.1 simple h k) in
        omega (arith, edge-count-le e (sides_of polygon), polygon-side-count polygon e distinct, count-none (same_side (e.1, e.0)) (sides_of polygon) back)
    here false h = omega (arith, edge-count-le e (sides_of polygon), polygon-side-count polygon (e.1, e.0) distinct, count-none (same_side e) (sides_of polygon) h)
