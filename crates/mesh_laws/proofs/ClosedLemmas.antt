-- Closed lists of polygons: each directed edge once, and once the other way, at a level and at the next one.
use Rattle.std.proofs.Common.{◌≡◌, ℕ, zero, suc, ◌<◌, Bool, true, false, not, ◌&&◌, nat_eq, List, [], ◌∷◌, length, get_or, arith, refl, ap, sym, ◌∙◌}
use Rattle.std.specs.List.{filter, list_any, list_all}
use Rattle.std.proofs.lemmas.Bool.Decides.{nat_tests}
use Rattle.std.proofs.lemmas.Bool.{and_parts, and_from, eqb-true, eq-eqb, false_from_ne_true}
use Rattle.std.proofs.lemmas.List.Sums.{list_all-from_AllPass, AllPass-from_list_all}
use Rattle.std.proofs.lemmas.List.Folds.{list_any-append, list_any_at}
use Rattle.subdiv_model.specs.Polygons.{Polygon, same_side, same_edge, sides_of, has_side, polygon_at, has_distinct_sides}
use Rattle.subdiv_model.specs.Edges.{first_named, all_sides, edges_of, faces_of_edge, is_closed, reversed, times_used, goes_both_ways}
use Rattle.subdiv_model.specs.Manifold.{is_simple}
use Rattle.number_laws.proofs.CountLemmas.{count-agree}
use Rattle.mesh_laws.proofs.SideLemmas.{same_side-refl, same_edge-alike, no-side-back, distinct-count, edge-count}
use Rattle.mesh_laws.proofs.EdgeLemmas.{any-first_named, faces-count}

-- what passes one test somewhere, and another everywhere
pub any-all : {X : Type 0} (p q : X → Bool) (xs : List X) → list_any p xs ≡ true → list_all q xs ≡ true → (x : X) × (p x ≡ true) × (q x ≡ true)
any-all p q [] h k = absurd (cc)
any-all {X} p q (x ∷ xs) h k = here (p x) refl (λ m. any-all p q xs m (and_parts (q x) (list_all q xs) k).1)
  where
    here : (b : Bool) → p x ≡ b → (list_any p xs ≡ true → (y : X) × (p y ≡ true) × (q y ≡ true)) → (y : X) × (p y ≡ true) × (q y ≡ true)
    here true e behind = (x, e, (and_parts (q x) (list_all q xs) k).0)
    here false e behind = let more : list_any p xs ≡ true = grind (arith, nat_tests) in behind more

-- a side of one polygon is a side of all
pub any-here : (test : ℕ × ℕ → Bool) (polygons : List Polygon) (k : ℕ) → list_any test (sides_of (polygon_at polygons k)) ≡ true → list_any test (all_sides polygons) ≡ true
any-here test [] k h = h
any-here test (polygon ∷ polygons) zero h = list_any-append test (sides_of polygon) (all_sides polygons) ∙ grind (arith, nat_tests)
any-here test (polygon ∷ polygons) (suc k) h =
    let behind = any-here test polygons k h in
    list_any-append test (sides_of polygon) (all_sides polygons) ∙ grind (arith, nat_tests)

-- a side of all is a side of one polygon
pub any-place : (test : ℕ × ℕ → Bool) (polygons : List Polygon) → list_any test (all_sides polygons) ≡ true → (k : ℕ) × (k < length polygons) × (list_any test (sides_of (polygon_at polygons k)) ≡ true)
any-place test [] h = absurd (cc)
any-place test (polygon ∷ polygons) h = here (list_any test (sides_of polygon)) refl (λ m. any-place test polygons m)
  where
    here : (b : Bool) → list_any test (sides_of polygon) ≡ b → (list_any test (all_sides polygons) ≡ true → (k : ℕ) × (k < length polygons) × (list_any test (sides_of (polygon_at polygons k)) ≡ true)) → (k : ℕ) × (k < length (polygon ∷ polygons)) × (list_any test (sides_of (polygon_at (polygon ∷ polygons) k)) ≡ true)
    here true e behind = (0, omega arith, e)
    here false e behind =
        let both = list_any-append test (sides_of polygon) (all_sides polygons) in
        let more : list_any test (all_sides polygons) ≡ true = grind (arith, nat_tests) in
        let found = behind more in
        (suc found.0, omega (arith, found.1), found.2)

pub all-at : {X : Type 0} (test : X → Bool) (xs : List X) (k : ℕ) (d : X) → k < length xs → list_all test xs ≡ true → test (get_or xs k d) ≡ true
all-at test xs k d h all = AllPass-from_list_all test xs all k d h

-- simple polygons have no side from a point to itself
pub no-loop : (polygons : List Polygon) (a : ℕ × ℕ) → list_all is_simple polygons ≡ true → list_any (same_side a) (all_sides polygons) ≡ true → nat_eq a.0 a.1 ≡ false
no-loop polygons a simple there =
    let found = any-place (same_side a) polygons there in
    let one = all-at is_simple polygons found.0 [] found.1 simple in
    false_from_ne_true _ (λ loop.
    let same : a.0 ≡ a.1 = eqb-true a.0 a.1 loop in
    let back : has_side (a.1, a.0) (polygon_at polygons found.0) ≡ true = ap (λ (k : ℕ). has_side (k, a.0) (polygon_at polygons found.0)) (sym same) ∙ ap (λ (k : ℕ). has_side (a.0, k) (polygon_at polygons found.0)) same ∙ found.2 in
    no-side-back (polygon_at polygons found.0) a.0 a.1 one found.2 back)

-- a test of each side that passes at its own place
pub sides-pass : (q : ℕ × ℕ → Bool) (polygons : List Polygon) → ((a : ℕ × ℕ) → list_any (same_side a) (all_sides polygons) ≡ true → q a ≡ true) → list_all q (all_sides polygons) ≡ true
sides-pass q polygons each =
    list_all-from_AllPass q (all_sides polygons) (λ k d h.
    each (get_or (all_sides polygons) k d) (list_any_at (same_side (get_or (all_sides polygons) k d)) (all_sides polygons) k d h (same_side-refl (get_or (all_sides polygons) k d))))

pub any-side-edge : (a : ℕ × ℕ) (sides : List (ℕ × ℕ)) → list_any (same_side a) sides ≡ true → list_any (same_edge a) sides ≡ true
any-side-edge a [] h = h
any-side-edge a (s ∷ sides) h = grind (arith, nat_tests, any-side-edge a sides)

-- in a closed list of simple polygons whose sides are distinct, each side occurs once, and once the other way
pub closed-times : (polygons : List Polygon) → list_all is_simple polygons ≡ true → has_distinct_sides (all_sides polygons) ≡ true → is_closed polygons ≡ true → (a : ℕ × ℕ) → list_any (same_side a) (all_sides polygons) ≡ true → (times_used polygons a ≡ 1) × (times_used polygons (reversed a) ≡ 1)
closed-times polygons simple distinct closed a there =
    let named : list_any (same_edge a) (edges_of polygons) ≡ true = any-first_named a (all_sides polygons) ∙ any-side-edge a (all_sides polygons) there in
    let found = any-all (same_edge a) (λ e. nat_eq (length (faces_of_edge polygons e)) 2) (edges_of polygons) named closed in
    let two : length (faces_of_edge polygons found.0) ≡ 2 = eqb-true _ _ found.2 in
    let faces = faces-count found.0 0 polygons simple in
    let alike = count-agree (same_edge a) (same_edge found.0) (λ u. same_edge-alike a found.0 u found.1) (all_sides polygons) in
    let ways = edge-count a (all_sides polygons) (no-loop polygons a simple there) in
    let one = distinct-count a (all_sides polygons) distinct in
    let other = distinct-count (reversed a) (all_sides polygons) distinct in
    (omega arith, omega arith)

pub closed-both : (polygons : List Polygon) → list_all is_simple polygons ≡ true → has_distinct_sides (all_sides polygons) ≡ true → is_closed polygons ≡ true → goes_both_ways polygons ≡ true
closed-both polygons simple distinct closed =
    sides-pass (λ side. nat_eq (times_used polygons side) 1 && nat_eq (times_used polygons (reversed side)) 1) polygons (λ a there.
    let times = closed-times polygons simple distinct closed a there in
    and_from _ _ (eq-eqb _ _ times.0) (eq-eqb _ _ times.1))

-- a test that passes for each side passes for each edge
pub first_named-all : (q : ℕ × ℕ → Bool) (sides : List (ℕ × ℕ)) → list_all q sides ≡ true → list_all q (first_named sides) ≡ true
first_named-all q [] h = refl
first_named-all q (s ∷ sides) h =
    let parts = and_parts (q s) (list_all q sides) h in
    and_from _ _ parts.0 (kept (first_named sides) (first_named-all q sides parts.1))
  where
    kept : (xs : List (ℕ × ℕ)) → list_all q xs ≡ true → list_all q (filter (λ t. not (same_edge s t)) xs) ≡ true
    kept [] k = refl
    kept (x ∷ xs) k =
        let parts = and_parts (q x) (list_all q xs) k in
        let behind = kept xs parts.1 in
        grind (arith, nat_tests)

-- simple polygons whose sides go both ways are closed
pub both-closed : (polygons : List Polygon) → list_all is_simple polygons ≡ true → ((a : ℕ × ℕ) → list_any (same_side a) (all_sides polygons) ≡ true → (times_used polygons a ≡ 1) × (times_used polygons (reversed a) ≡ 1)) → is_closed polygons ≡ true
both-closed polygons simple both =
    first_named-all (λ e. nat_eq (length (faces_of_edge polygons e)) 2) (all_sides polygons) (sides-pass (λ e. nat_eq (length (faces_of_edge polygons e)) 2) polygons (λ a there.
    let times = both a there in
    let ways = edge-count a (all_sides polygons) (no-loop polygons a simple there) in
    eq-eqb _ _ (faces-count a 0 polygons simple ∙ ways ∙ omega (arith, times.0, times.1))))
