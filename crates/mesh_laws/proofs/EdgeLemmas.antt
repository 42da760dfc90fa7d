-- Edges by first appearance, their numbers and their faces.
use Rattle.std.proofs.Common.{◌≡◌, ℕ, ◌+◌, ◌<◌, ◌≤◌, Bool, true, false, not, nat_eq, List, [], ◌∷◌, length, get_or, arith, refl, ap, sym, ◌∙◌, if◌then◌else◌}
use Rattle.std.specs.List.{filter, list_any, list_all, count_by, position_or_len}
use Rattle.std.proofs.lemmas.Bool.Decides.{nat_tests}
use Rattle.std.proofs.lemmas.Bool.{and_parts, eqb-true, eq-eqb, false_from_ne_true}
use Rattle.std.proofs.lemmas.List.Sums.{list_all-from_AllPass, passes_at_first, length-filter, count_by-le-length}
use Rattle.std.proofs.lemmas.List.Folds.{list_any_at}
use Rattle.subdiv_model.specs.Polygons.{Polygon, same_edge, sides_of, has_edge}
use Rattle.subdiv_model.specs.Lists.{places_from}
use Rattle.subdiv_model.specs.Edges.{first_named, all_sides}
use Rattle.subdiv_model.specs.Manifold.{is_simple}
use Rattle.number_laws.proofs.CountLemmas.{count-cons, count-append, count-none, count-some, one_if}
use Rattle.mesh_laws.proofs.SideLemmas.{same_edge-refl, same_edge-sym, same_edge-trans, same_edge-alike, polygon-edge-count}

-- the sides that do not name t's edge name s's edge where s names another
pub any-filter : (s t : ℕ × ℕ) (xs : List (ℕ × ℕ)) → list_any (same_edge s) (filter (λ x. not (same_edge t x)) xs) ≡ (if same_edge s t then false else list_any (same_edge s) xs)
any-filter s t [] = grind (arith, nat_tests)
any-filter s t (x ∷ xs) = grind (arith, nat_tests, any-filter s t xs, same_edge-trans s x t, same_edge-trans t s x, same_edge-sym s t, same_edge-sym x t)

-- the first sides name the same edges as all sides
pub any-first_named : (s : ℕ × ℕ) (sides : List (ℕ × ℕ)) → list_any (same_edge s) (first_named sides) ≡ list_any (same_edge s) sides
any-first_named s [] = refl
any-first_named s (t ∷ sides) = grind (arith, nat_tests, any-first_named s sides, any-filter s t (first_named sides))

-- the list has at most as many edges as sides
pub length-first : (sides : List (ℕ × ℕ)) → length (first_named sides) ≤ length sides
length-first [] = omega arith
length-first (s ∷ sides) =
    let others = first_named sides in
    let keep = λ (t : ℕ × ℕ). not (same_edge s t) in
    omega (arith, length-filter keep others, count_by-le-length keep others, length-first sides)

count-filter-le : (test keep : ℕ × ℕ → Bool) (xs : List (ℕ × ℕ)) → count_by test (filter keep xs) ≤ count_by test xs
count-filter-le test keep [] = omega arith
count-filter-le test keep (x ∷ xs) = go (keep x) refl (count-filter-le test keep xs)
  where
    go : (b : Bool) → keep x ≡ b → count_by test (filter keep xs) ≤ count_by test xs → count_by test (filter keep (x ∷ xs)) ≤ count_by test (x ∷ xs)
    go true e behind = rw e (omega (arith, count-cons test x (filter keep xs), count-cons test x xs))
    go false e behind = rw e (omega (arith, count-cons test x xs))

-- no two of the first sides have one edge
pub first_named-once : (s : ℕ × ℕ) (sides : List (ℕ × ℕ)) → count_by (same_edge s) (first_named sides) ≤ 1
first_named-once s [] = omega arith
first_named-once s (t ∷ sides) = go (same_edge s t) refl (first_named-once s sides)
  where
    go : (b : Bool) → same_edge s t ≡ b → count_by (same_edge s) (first_named sides) ≤ 1 → count_by (same_edge s) (first_named (t ∷ sides)) ≤ 1
    go true e behind =
        let none : list_any (same_edge s) (filter (λ x. not (same_edge t x)) (first_named sides)) ≡ false = any-filter s t (first_named sides) ∙ ap (λ b. if b then false else list_any (same_edge s) (first_named sides)) e in
        let first : one_if (same_edge s t) ≡ 1 = ap one_if e in
        omega (arith, count-cons (same_edge s) t (filter (λ x. not (same_edge t x)) (first_named sides)), count-none (same_edge s) (filter (λ x. not (same_edge t x)) (first_named sides)) none, first)
    go false e behind =
        let first : one_if (same_edge s t) ≡ 0 = ap one_if e in
        omega (arith, count-cons (same_edge s) t (filter (λ x. not (same_edge t x)) (first_named sides)), count-filter-le (same_edge s) (λ x. not (same_edge t x)) (first_named sides), first)

-- a side names its own edge
pub all-named : (sides : List (ℕ × ℕ)) → list_all (λ s. list_any (same_edge s) (first_named sides)) sides ≡ true
all-named sides =
    list_all-from_AllPass (λ s. list_any (same_edge s) (first_named sides)) sides (λ k d h.
    any-first_named (get_or sides k d) sides ∙ list_any_at (same_edge (get_or sides k d)) sides k d h (same_edge-refl (get_or sides k d)))

-- if the edge is listed, its first place is within the list
pub position-within : (s : ℕ × ℕ) (edges : List (ℕ × ℕ)) → list_any (same_edge s) edges ≡ true → position_or_len (same_edge s) edges < length edges
position-within s [] h = cc
position-within s (t ∷ edges) h = here (same_edge s t) refl (λ k. position-within s edges k)
  where
    here : (b : Bool) → same_edge s t ≡ b → (list_any (same_edge s) edges ≡ true → position_or_len (same_edge s) edges < length edges) → position_or_len (same_edge s) (t ∷ edges) < length (t ∷ edges)
    here true e behind = rw e (omega arith)
    here false e behind =
        let more : list_any (same_edge s) edges ≡ true = grind (arith, nat_tests) in
        let within = behind more in
        rw e (omega arith)

pub position-alike : (s t : ℕ × ℕ) (edges : List (ℕ × ℕ)) → same_edge s t ≡ true → position_or_len (same_edge s) edges ≡ position_or_len (same_edge t) edges
position-alike s t [] h = refl
position-alike s t (e ∷ edges) h = rw (same_edge-alike s t e h, position-alike s t edges h) refl

pub any-alike : (s t : ℕ × ℕ) (edges : List (ℕ × ℕ)) → same_edge s t ≡ true → list_any (same_edge s) edges ≡ true → list_any (same_edge t) edges ≡ true
any-alike s t [] h there = there
any-alike s t (e ∷ edges) h there = grind (arith, nat_tests, same_edge-alike s t e, any-alike s t edges)

-- two edges, one of which is listed, have the same number exactly where they are equal
pub same-number : (s t : ℕ × ℕ) (edges : List (ℕ × ℕ)) → list_any (same_edge s) edges ≡ true → nat_eq (position_or_len (same_edge s) edges) (position_or_len (same_edge t) edges) ≡ same_edge s t
same-number s t edges there = here (same_edge s t) refl
  where
    within : position_or_len (same_edge s) edges < length edges
    within = position-within s edges there

    here : (b : Bool) → same_edge s t ≡ b → nat_eq (position_or_len (same_edge s) edges) (position_or_len (same_edge t) edges) ≡ b
    here true e = eq-eqb _ _ (position-alike s t edges e)
    here false e = false_from_ne_true _ (λ same.
        let number : position_or_len (same_edge s) edges ≡ position_or_len (same_edge t) edges = eqb-true _ _ same in
        let at_s : same_edge s (get_or edges (position_or_len (same_edge s) edges) (0, 0)) ≡ true = passes_at_first (same_edge s) edges (0, 0) within in
        let within_t : position_or_len (same_edge t) edges < length edges = omega (arith, number, within) in
        let at_t : same_edge t (get_or edges (position_or_len (same_edge t) edges) (0, 0)) ≡ true = passes_at_first (same_edge t) edges (0, 0) within_t in
        let at_s' : same_edge s (get_or edges (position_or_len (same_edge t) edges) (0, 0)) ≡ true = ap (λ k. same_edge s (get_or edges k (0, 0))) (sym number) ∙ at_s in
        let joined : same_edge s t ≡ true = same_edge-trans s (get_or edges (position_or_len (same_edge t) edges) (0, 0)) t at_s' (same_edge-sym (get_or edges (position_or_len (same_edge t) edges) (0, 0)) t ∙ at_t) in
        cc)

-- the faces that have an edge are as many as its occurrences
pub faces-count : (e : ℕ × ℕ) (place : ℕ) (polygons : List Polygon) → list_all is_simple polygons ≡ true → length (places_from place (has_edge e) polygons) ≡ count_by (same_edge e) (all_sides polygons)
faces-count e place [] simple = refl
faces-count e place (polygon ∷ polygons) simple =
    let parts = and_parts (is_simple polygon) (list_all is_simple polygons) simple in
    here (has_edge e polygon) refl (polygon-edge-count polygon e parts.0) (faces-count e (place + 1) polygons parts.1)
  where
    both : count_by (same_edge e) (all_sides (polygon ∷ polygons)) ≡ count_by (same_edge e) (sides_of polygon) + count_by (same_edge e) (all_sides polygons)
    both = count-append (same_edge e) (sides_of polygon) (all_sides polygons)

    here : (b : Bool) → has_edge e polygon ≡ b → count_by (same_edge e) (sides_of polygon) ≤ 1 → length (places_from (place + 1) (has_edge e) polygons) ≡ count_by (same_edge e) (all_sides polygons) → length (places_from place (has_edge e) (polygon ∷ polygons)) ≡ count_by (same_edge e) (all_sides (polygon ∷ polygons))
    here true h once behind = rw h (omega (arith, both, count-some (same_edge e) (sides_of polygon) h))
    here false h once behind = rw h (omega (arith, both, count-none (same_edge e) (sides_of polygon) h))
