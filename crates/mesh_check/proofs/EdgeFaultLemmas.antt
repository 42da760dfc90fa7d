-- The first edge that passes a test, in order of first appearance, is the first side that passes it.
use Rattle.std.proofs.Common.{◌≡◌, ℕ, ◌+◌, ◌≤◌, Bool, true, false, not, ◌&&◌, ◌||◌, nat_eq, nat_le, List, [], ◌∷◌, ◌++◌, map, append_assoc, arith, refl, ap, sym, ◌∙◌, Option, Some, None, ◌⊎◌, inl, inr}
use Rattle.std.specs.List.{filter, find, count_by}
use Rattle.std.proofs.lemmas.Bool.Decides.{nat_tests}
use Rattle.std.proofs.lemmas.Bool.{or_cases}
use Rattle.subdiv_model.specs.Lists.{first_of}
use Rattle.subdiv_model.specs.Polygons.{Polygon, same_edge, same_side}
use Rattle.subdiv_model.specs.Edges.{all_sides, first_named, reversed, times_used}
use Rattle.subdiv_model.specs.MeshFault.{MeshFault, NonManifoldEdge, WindingClash, is_crowded, is_clashing, crowded_edges, clashing_edges}
use Rattle.number_laws.proofs.CountLemmas.{count-agree}
use Rattle.mesh_laws.proofs.SideLemmas.{edge-count-le, same_edge-alike, same_side-alike}
use Rattle.mesh_check.specs.Faults.{edge_faults, edge_named}
use Rattle.mesh_check.specs.Listed.{fault_of_edge}

-- the sides of an edge that does not pass may be left out
pub filter-without : (test : ℕ × ℕ → Bool) → ((s t : ℕ × ℕ) → same_edge s t ≡ true → test s ≡ test t) → (s : ℕ × ℕ) → test s ≡ false → (xs : List (ℕ × ℕ)) → filter test (filter (λ y. not (same_edge s y)) xs) ≡ filter test xs
filter-without test alike s h [] = refl
filter-without test alike s h (x ∷ xs) = go (same_edge s x) refl (filter-without test alike s h xs)
  where
    go : (b : Bool) → same_edge s x ≡ b → filter test (filter (λ y. not (same_edge s y)) xs) ≡ filter test xs → filter test (filter (λ y. not (same_edge s y)) (x ∷ xs)) ≡ filter test (x ∷ xs)
    go true e behind = let fails : test x ≡ false = sym (alike s x e) ∙ h in rw (e, fails) behind
    go false e behind = rw e (keep (test x) refl behind)
      where
        keep : (c : Bool) → test x ≡ c → filter test (filter (λ y. not (same_edge s y)) xs) ≡ filter test xs → filter test (x ∷ filter (λ y. not (same_edge s y)) xs) ≡ filter test (x ∷ xs)
        keep true f behind = rw f (ap (λ ys. x ∷ ys) behind)
        keep false f behind = rw f behind

-- the first edge that passes is the first side that passes
pub first-edge : (test : ℕ × ℕ → Bool) → ((s t : ℕ × ℕ) → same_edge s t ≡ true → test s ≡ test t) → (sides : List (ℕ × ℕ)) → first_of (filter test (first_named sides)) ≡ find test sides
first-edge test alike [] = refl
first-edge test alike (s ∷ sides) = go (test s) refl (first-edge test alike sides)
  where
    go : (b : Bool) → test s ≡ b → first_of (filter test (first_named sides)) ≡ find test sides → first_of (filter test (first_named (s ∷ sides))) ≡ find test (s ∷ sides)
    go true e behind = rw e refl
    go false e behind = rw e (ap first_of (filter-without test alike s e (first_named sides)) ∙ behind)

pub crowded-alike : (polygons : List Polygon) (s t : ℕ × ℕ) → same_edge s t ≡ true → is_crowded polygons s ≡ is_crowded polygons t
crowded-alike polygons s t h = ap (nat_le 3) (count-agree (same_edge s) (same_edge t) (λ u. same_edge-alike s t u h) (all_sides polygons))

pub clashing-alike : (polygons : List Polygon) (s t : ℕ × ℕ) → same_edge s t ≡ true → is_clashing polygons s ≡ is_clashing polygons t
clashing-alike polygons s t h = go (or_cases (same_side s t) (nat_eq s.0 t.1 && nat_eq s.1 t.0) h)
  where
    back : (u : ℕ × ℕ) → same_side s t ≡ true → same_side (reversed s) u ≡ same_side (reversed t) u
    back u k = grind (arith, nat_tests)

    across : (u : ℕ × ℕ) → (nat_eq s.0 t.1 && nat_eq s.1 t.0) ≡ true → same_side s u ≡ same_side (reversed t) u
    across u k = grind (arith, nat_tests)

    across-back : (u : ℕ × ℕ) → (nat_eq s.0 t.1 && nat_eq s.1 t.0) ≡ true → same_side (reversed s) u ≡ same_side t u
    across-back u k = grind (arith, nat_tests)

    turned : (a b : Bool) → (a || b) ≡ (b || a)
    turned true true = refl
    turned true false = refl
    turned false true = refl
    turned false false = refl

    go : (same_side s t ≡ true) ⊎ ((nat_eq s.0 t.1 && nat_eq s.1 t.0) ≡ true) → is_clashing polygons s ≡ is_clashing polygons t
    go (inl k) =
        let one = count-agree (same_side s) (same_side t) (λ u. same_side-alike s t u k) (all_sides polygons) in
        let other = count-agree (same_side (reversed s)) (same_side (reversed t)) (λ u. back u k) (all_sides polygons) in
        rw (one, other) refl
    go (inr k) =
        let one = count-agree (same_side s) (same_side (reversed t)) (λ u. across u k) (all_sides polygons) in
        let other = count-agree (same_side (reversed s)) (same_side t) (λ u. across-back u k) (all_sides polygons) in
        rw (one, other) (turned (nat_le 2 (times_used polygons (reversed t))) (nat_le 2 (times_used polygons t)))

-- the first edge of three sides
pub first-crowded : (polygons : List Polygon) → first_of (crowded_edges polygons) ≡ find (is_crowded polygons) (all_sides polygons)
first-crowded polygons = first-edge (is_crowded polygons) (crowded-alike polygons) (all_sides polygons)

-- the first edge of two sides in one direction
pub first-clashing : (polygons : List Polygon) → first_of (clashing_edges polygons) ≡ find (is_clashing polygons) (all_sides polygons)
first-clashing polygons = first-edge (is_clashing polygons) (clashing-alike polygons) (all_sides polygons)

-- the first of two lists together is the first of the first one, where it has one
pub pick : {X Y : Type 0} (g : X → Y) (xs : List X) (ys : List Y) (x : X) → first_of xs ≡ Some x → Some (g x) ≡ first_of (map g xs ++ ys)
pick g [] ys x h = absurd (cc)
pick g (y ∷ xs) ys x h = let e : Some y ≡ Some x = h in let same : y ≡ x = cc in ap (λ z. Some (g z)) (sym same)

pub skip : {X Y : Type 0} (g : X → Y) (xs : List X) (ys : List Y) → first_of xs ≡ None → first_of (map g xs ++ ys) ≡ first_of ys
skip g [] ys h = refl
skip g (y ∷ xs) ys h = absurd (cc)

pub pick-last : {X Y : Type 0} (g : X → Y) (xs : List X) (x : X) → first_of xs ≡ Some x → Some (g x) ≡ first_of (map g xs)
pick-last g [] x h = absurd (cc)
pick-last g (y ∷ xs) x h = let e : Some y ≡ Some x = h in let same : y ≡ x = cc in ap (λ z. Some (g z)) (sym same)

pub skip-last : {X Y : Type 0} (g : X → Y) (xs : List X) → first_of xs ≡ None → None ≡ first_of (map g xs)
skip-last g [] h = refl
skip-last g (y ∷ xs) h = absurd (cc)

-- the first of the sides of three is the first such edge
pub crowded-first : (polygons : List Polygon) (sides slice : List (ℕ × ℕ)) (found : Option (ℕ × ℕ)) → slice ≡ sides → sides ≡ all_sides polygons → found ≡ find (λ s. nat_le 3 (count_by (same_edge s) slice)) slice → first_of (crowded_edges polygons) ≡ found
crowded-first polygons sides slice found at is named =
    first-crowded polygons ∙ ap (λ ss. find (λ s. nat_le 3 (count_by (same_edge s) ss)) ss) (sym (at ∙ is)) ∙ sym named

pub clashing-first : (polygons : List Polygon) (sides slice : List (ℕ × ℕ)) (found : Option (ℕ × ℕ)) → slice ≡ sides → sides ≡ all_sides polygons → found ≡ find (λ s. nat_le 2 (count_by (same_side s) slice) || nat_le 2 (count_by (same_side (reversed s)) slice)) slice → first_of (clashing_edges polygons) ≡ found
clashing-first polygons sides slice found at is named =
    first-clashing polygons ∙ ap (λ ss. find (λ s. nat_le 2 (count_by (same_side s) ss) || nat_le 2 (count_by (same_side (reversed s)) ss)) ss) (sym (at ∙ is)) ∙ sym named

-- the first fault of the edges
pub edge-crowded : (polygons : List Polygon) (edge : ℕ × ℕ) → first_of (crowded_edges polygons) ≡ Some edge → Some (NonManifoldEdge edge.0 edge.1) ≡ first_of (edge_faults polygons)
edge-crowded polygons edge h = pick (λ (e : ℕ × ℕ). NonManifoldEdge e.0 e.1) (crowded_edges polygons) (map (λ (e : ℕ × ℕ). WindingClash e.0 e.1) (clashing_edges polygons)) edge h

pub edge-clashing : (polygons : List Polygon) (edge : ℕ × ℕ) → first_of (crowded_edges polygons) ≡ None → first_of (clashing_edges polygons) ≡ Some edge → Some (WindingClash edge.0 edge.1) ≡ first_of (edge_faults polygons)
edge-clashing polygons edge none h =
    pick-last (λ (e : ℕ × ℕ). WindingClash e.0 e.1) (clashing_edges polygons) edge h
    ∙ sym (skip (λ (e : ℕ × ℕ). NonManifoldEdge e.0 e.1) (crowded_edges polygons) (map (λ (e : ℕ × ℕ). WindingClash e.0 e.1) (clashing_edges polygons)) none)

pub edge-fine : (polygons : List Polygon) → first_of (crowded_edges polygons) ≡ None → first_of (clashing_edges polygons) ≡ None → None ≡ first_of (edge_faults polygons)
edge-fine polygons none fine =
    skip-last (λ (e : ℕ × ℕ). WindingClash e.0 e.1) (clashing_edges polygons) fine
    ∙ sym (skip (λ (e : ℕ × ℕ). NonManifoldEdge e.0 e.1) (crowded_edges polygons) (map (λ (e : ℕ × ℕ). WindingClash e.0 e.1) (clashing_edges polygons)) none)

pub edge-first : (polygons : List Polygon) (crowded clashing : Option (ℕ × ℕ)) → first_of (crowded_edges polygons) ≡ crowded → first_of (clashing_edges polygons) ≡ clashing → edge_named crowded clashing ≡ first_of (edge_faults polygons)
edge-first polygons (Some edge) clashing h k = edge-crowded polygons edge h
edge-first polygons None (Some edge) h k = edge-clashing polygons edge h k
edge-first polygons None None h k = edge-fine polygons h k

find-never : (test : ℕ × ℕ → Bool) → ((s : ℕ × ℕ) → test s ≡ false) → (sides : List (ℕ × ℕ)) → find test sides ≡ None
find-never test never [] = refl
find-never test never (s ∷ sides) = rw (never s) (find-never test never sides)

nothing-first : {X : Type 0} (xs : List X) → None ≡ first_of xs → xs ≡ []
nothing-first [] h = refl
nothing-first (x ∷ xs) h = absurd (cc)

-- if each side occurs at most once, there is no first fault of edges
pub edge-once : (polygons : List Polygon) (sides slice : List (ℕ × ℕ)) → slice ≡ sides → sides ≡ all_sides polygons → ((s : ℕ × ℕ) → count_by (same_side s) slice ≤ 1) → None ≡ first_of (edge_faults polygons)
edge-once polygons sides slice at is once =
    edge-fine polygons
    (crowded-first polygons sides slice None at is (sym (find-never (λ s. nat_le 3 (count_by (same_edge s) slice)) (λ s. few s (edge-count-le s slice)) slice)))
    (clashing-first polygons sides slice None at is (sym (find-never (λ s. nat_le 2 (count_by (same_side s) slice) || nat_le 2 (count_by (same_side (reversed s)) slice)) (λ s. single (count_by (same_side s) slice) (count_by (same_side (reversed s)) slice) (once s) (once (reversed s))) slice)))
  where
    few : (s : ℕ × ℕ) → count_by (same_edge s) slice ≤ count_by (same_side s) slice + count_by (same_side (reversed s)) slice → nat_le 3 (count_by (same_edge s) slice) ≡ false
    few s le = grind (arith, nat_tests, le, once s, once (reversed s))

    single : (m n : ℕ) → m ≤ 1 → n ≤ 1 → (nat_le 2 m || nat_le 2 n) ≡ false
    single m n h k = grind (arith, nat_tests)

-- if each side occurs at most once, the list of the faults of edges is empty
pub edges-once : (polygons : List Polygon) (sides slice : List (ℕ × ℕ)) → slice ≡ sides → sides ≡ all_sides polygons → ((s : ℕ × ℕ) → count_by (same_side s) slice ≤ 1) → edge_faults polygons ≡ []
edges-once polygons sides slice at is once = nothing-first (edge_faults polygons) (edge-once polygons sides slice at is once)

-- the crowded edges and then the clashing edges are put
pub edges-put : (polygons : List Polygon) (old between new : List MeshFault) (crowded clashing : List (ℕ × ℕ)) → between ≡ old ++ map (fault_of_edge true) crowded → new ≡ between ++ map (fault_of_edge false) clashing
    → crowded ≡ crowded_edges polygons → clashing ≡ clashing_edges polygons → new ≡ old ++ edge_faults polygons
edges-put polygons old between new crowded clashing first second here behind =
    second
    ∙ ap (λ ys. ys ++ map (fault_of_edge false) clashing) first
    ∙ append_assoc old (map (fault_of_edge true) crowded) (map (fault_of_edge false) clashing)
    ∙ ap (λ es. old ++ (map (fault_of_edge true) es ++ map (fault_of_edge false) clashing)) here
    ∙ ap (λ es. old ++ (map (fault_of_edge true) (crowded_edges polygons) ++ map (fault_of_edge false) es)) behind
