-- An edge has the direction in which the first of its faces has it.
use Rattle.std.proofs.Common.{◌≡◌, ℕ, zero, suc, ◌<◌, ◌≤◌, Bool, true, false, not, ◌||◌, nat_eq, List, [], ◌∷◌, ◌++◌, length, get_or, arith, refl, ap, sym, ◌∙◌, if◌then◌else◌}
use Rattle.std.specs.List.{list_any}
use Rattle.std.proofs.lemmas.Bool.Decides.{nat_tests}
use Rattle.std.proofs.lemmas.Bool.{not-true}
use Rattle.subdiv_model.specs.Polygons.{Polygon, polygon_at, same_side, same_edge, sides_of, has_side, has_edge}
use Rattle.subdiv_model.specs.Edges.{all_sides, edges_of, first_named}
use Rattle.mesh_laws.proofs.SideLemmas.{same_side-refl, same_edge-refl, same_edge-sym}
use Rattle.level_topology.specs.Topology.{edge_at}
use Rattle.level_topology.proofs.PlaceLemmas.{filter-item}

-- the first of the sides that is this edge is this side
abbrev begins : ℕ × ℕ → List (ℕ × ℕ) → Bool
begins s [] = false
begins s (t ∷ sides) = if same_edge s t then same_side s t else begins s sides

begins-append : (s : ℕ × ℕ) (xs ys : List (ℕ × ℕ)) → begins s (xs ++ ys) ≡ (if list_any (same_edge s) xs then begins s xs else begins s ys)
begins-append s [] ys = refl
begins-append s (t ∷ xs) ys = go (same_edge s t) refl (begins-append s xs ys)
  where
    go : (b : Bool) → same_edge s t ≡ b → begins s (xs ++ ys) ≡ (if list_any (same_edge s) xs then begins s xs else begins s ys) → begins s ((t ∷ xs) ++ ys) ≡ (if list_any (same_edge s) (t ∷ xs) then begins s (t ∷ xs) else begins s ys)
    go true e behind = rw e refl
    go false e behind = rw e behind

-- each edge is the first of its sides
begins-named : (sides : List (ℕ × ℕ)) (e : ℕ) → e < length (first_named sides) → begins (get_or (first_named sides) e (0, 0)) sides ≡ true
begins-named [] e h = absurd (omega arith)
begins-named (x ∷ sides) zero h = let edge = same_edge-refl x in let side = same_side-refl x in rw (edge, side) refl
begins-named (x ∷ sides) (suc e) h =
    let found = filter-item (λ y. not (same_edge x y)) (0, 0) (first_named sides) e (omega arith) in
    let y : ℕ × ℕ = get_or (first_named sides) found.0 (0, 0) in
    let other : same_edge y x ≡ false = same_edge-sym y x ∙ not-true _ found.3 in
    ap (λ s. begins s (x ∷ sides)) found.2 ∙ rw other (begins-named sides found.0 found.1)

-- a side that is there is among those that begin
side-begins : (s : ℕ × ℕ) (sides : List (ℕ × ℕ)) → begins s sides ≡ true → list_any (same_side s) sides ≡ true
side-begins s [] h = absurd (cc)
side-begins s (t ∷ sides) h = go (same_edge s t) refl (side-begins s sides)
  where
    go : (b : Bool) → same_edge s t ≡ b → (begins s sides ≡ true → list_any (same_side s) sides ≡ true) → list_any (same_side s) (t ∷ sides) ≡ true
    go true e behind = let first : same_side s t ≡ true = rw e at h in rw first refl
    go false e behind = let later : begins s sides ≡ true = rw e at h in let rest = behind later in grind (arith, nat_tests)

-- a face that has the edge in any direction comes after one that has it in its own, or is that one
first-direction : (polygons : List Polygon) (s : ℕ × ℕ) (g : ℕ) → begins s (all_sides polygons) ≡ true → has_edge s (polygon_at polygons g) ≡ true → (f : ℕ) × (f ≤ g) × (has_side s (polygon_at polygons f) ≡ true)
first-direction [] s g b h = absurd (cc)
first-direction (p ∷ polygons) s g b h = go (list_any (same_edge s) (sides_of p)) refl g h (λ later k has. first-direction polygons s k later has)
  where
    parts : begins s (all_sides (p ∷ polygons)) ≡ (if list_any (same_edge s) (sides_of p) then begins s (sides_of p) else begins s (all_sides polygons))
    parts = begins-append s (sides_of p) (all_sides polygons)

    go : (q : Bool) → list_any (same_edge s) (sides_of p) ≡ q → (g : ℕ) → has_edge s (polygon_at (p ∷ polygons) g) ≡ true → (begins s (all_sides polygons) ≡ true → (k : ℕ) → has_edge s (polygon_at polygons k) ≡ true → (f : ℕ) × (f ≤ k) × (has_side s (polygon_at polygons f) ≡ true)) → (f : ℕ) × (f ≤ g) × (has_side s (polygon_at (p ∷ polygons) f) ≡ true)
    go true e g h behind = (0, omega arith, side-begins s (sides_of p) (sym (parts ∙ ap (λ c. if c then begins s (sides_of p) else begins s (all_sides polygons)) e) ∙ b))
    go false e zero h behind = absurd (cc)
    go false e (suc k) h behind =
        let later : begins s (all_sides polygons) ≡ true = sym (parts ∙ ap (λ c. if c then begins s (sides_of p) else begins s (all_sides polygons)) e) ∙ b in
        let found = behind later k h in
        (suc found.0, omega (arith, found.1), found.2)

pub edge-direction : (polygons : List Polygon) (e g : ℕ) → e < length (edges_of polygons) → has_edge (edge_at polygons e) (polygon_at polygons g) ≡ true → (f : ℕ) × (f ≤ g) × (has_side (edge_at polygons e) (polygon_at polygons f) ≡ true)
edge-direction polygons e g inside h = first-direction polygons (edge_at polygons e) g (begins-named (all_sides polygons) e inside) h

-- a list that ascends and has these numbers is the list of them
pub one-listed : (xs : List ℕ) (a : ℕ) → ((k : ℕ) → suc k < length xs → get_or xs k 0 < get_or xs (suc k) 0) → ((n : ℕ) → list_any (nat_eq n) xs ≡ nat_eq n a) → xs ≡ a ∷ []
one-listed [] a asc all = let self = all a in absurd (grind (arith, nat_tests))
one-listed (x ∷ []) a asc all = let first = all x in let same : x ≡ a = grind (arith, nat_tests) in ap (λ k. k ∷ []) same
one-listed (x ∷ (y ∷ xs)) a asc all =
    let less = asc 0 (omega arith) in
    let first = all x in
    let second = all y in
    let one : x ≡ a = grind (arith, nat_tests) in
    let two : y ≡ a = grind (arith, nat_tests) in
    absurd (omega (arith, less, one, two))

pub two-listed : (xs : List ℕ) (a b : ℕ) → a < b → ((k : ℕ) → suc k < length xs → get_or xs k 0 < get_or xs (suc k) 0) → ((n : ℕ) → list_any (nat_eq n) xs ≡ (nat_eq n a || nat_eq n b)) → xs ≡ a ∷ (b ∷ [])
two-listed [] a b less asc all = let self = all a in absurd (grind (arith, nat_tests))
two-listed (x ∷ []) a b less asc all =
    let first = all a in
    let second = all b in
    let one : a ≡ x = grind (arith, nat_tests) in
    let two : b ≡ x = grind (arith, nat_tests) in
    absurd (omega (arith, less, one, two))
two-listed (x ∷ (y ∷ [])) a b less asc all =
    let up = asc 0 (omega arith) in
    let first = all a in
    let second = all b in
    let one : x ≡ a = grind (arith, nat_tests) in
    let two : y ≡ b = grind (arith, nat_tests) in
    ap (λ k. k ∷ (y ∷ [])) one ∙ ap (λ k. a ∷ (k ∷ [])) two
two-listed (x ∷ (y ∷ (z ∷ xs))) a b less asc all =
    let up = asc 0 (omega arith) in
    let more = asc 1 (omega arith) in
    let first = all x in
    let second = all y in
    let third = all z in
    absurd (grind (arith, nat_tests))
