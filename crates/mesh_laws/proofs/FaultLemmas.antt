-- A mesh has no fault exactly where it is a manifold, and its edges then have one or two faces.
use Rattle.std.proofs.Common.{◌≡◌, ℕ, ◌+◌, ◌≤◌, Bool, true, false, not, ◌&&◌, ◌||◌, nat_eq, nat_lt, nat_le, List, [], ◌∷◌, ◌++◌, length, map, get_or, arith, refl, ap, sym, ◌∙◌, ◌⊎◌, inl, inr, None, IsTrue, ◌↔◌}
use Rattle.std.specs.List.{All, filter, list_any, list_all, count_by, range_with_len}
use Rattle.std.proofs.lemmas.Bool.Decides.{nat_tests}
use Rattle.std.proofs.lemmas.Bool.{and_parts, and_from, or_cases, not-true}
use Rattle.std.proofs.lemmas.List.Folds.{list_any_at}
use Rattle.subdiv_model.specs.Polygons.{Polygon, same_side, same_edge, is_distinct, has_distinct_sides}
use Rattle.subdiv_model.specs.Lists.{places_from}
use Rattle.subdiv_model.specs.Edges.{all_sides, edges_of, faces_of_edge, times_used, reversed}
use Rattle.subdiv_model.specs.Manifold.{is_simple, has_one_fan, is_manifold}
use Rattle.subdiv_model.specs.MeshFault.{FaceTooSmall, RepeatedVertex, NonManifoldEdge, WindingClash, SplitVertex, small_faces, repeating_faces, crowded_edges, clashing_edges, split_vertices, is_crowded, is_clashing, mesh_faults, first_mesh_fault}
use Rattle.subdiv_model.specs.Lists.{first_of}
use Rattle.number_laws.proofs.CountLemmas.{count-none, count-some, count-agree, all-weaker}
use Rattle.mesh_laws.proofs.SideLemmas.{same_side-alike, same_edge-refl, distinct-count, distinct-from_count, edge-count-le}
use Rattle.mesh_laws.proofs.EdgeLemmas.{any-first_named, faces-count}
use Rattle.mesh_laws.proofs.ClosedLemmas.{any-all, any-side-edge}

pub first-none : {X : Type 0} (xs : List X) → first_of xs ≡ None → xs ≡ []
first-none [] h = refl
first-none (x ∷ xs) h = absurd (cc)

pub append-none : {X : Type 0} (xs ys : List X) → xs ++ ys ≡ [] → (xs ≡ []) × (ys ≡ [])
append-none [] ys h = (refl, h)
append-none (x ∷ xs) ys h = absurd (cc)

map-none : {X Y : Type 0} (f : X → Y) (xs : List X) → map f xs ≡ [] → xs ≡ []
map-none f [] h = refl
map-none f (x ∷ xs) h = absurd (cc)

places-none : {X : Type 0} (test : X → Bool) (place : ℕ) (xs : List X) → list_all (λ x. not (test x)) xs ≡ true → places_from place test xs ≡ []
places-none test place [] h = refl
places-none test place (x ∷ xs) h =
    let parts = and_parts (not (test x)) (list_all (λ y. not (test y)) xs) h in
    rw (not-true (test x) parts.0) (places-none test (place + 1) xs parts.1)

none-places : {X : Type 0} (test : X → Bool) (place : ℕ) (xs : List X) → places_from place test xs ≡ [] → list_all (λ x. not (test x)) xs ≡ true
none-places test place [] h = refl
none-places test place (x ∷ xs) h = go (test x) refl (λ k. none-places test (place + 1) xs k)
  where
    go : (b : Bool) → test x ≡ b → (places_from (place + 1) test xs ≡ [] → list_all (λ y. not (test y)) xs ≡ true) → list_all (λ y. not (test y)) (x ∷ xs) ≡ true
    go true e behind = let some : place ∷ places_from (place + 1) test xs ≡ [] = rw e at h in absurd (cc)
    go false e behind = and_from _ _ (ap not e) (behind (rw e at h))

filter-none : {X : Type 0} (test : X → Bool) (xs : List X) → list_all (λ x. not (test x)) xs ≡ true → filter test xs ≡ []
filter-none test [] h = refl
filter-none test (x ∷ xs) h =
    let parts = and_parts (not (test x)) (list_all (λ y. not (test y)) xs) h in
    rw (not-true (test x) parts.0) (filter-none test xs parts.1)

none-filter : {X : Type 0} (test : X → Bool) (xs : List X) → filter test xs ≡ [] → list_all (λ x. not (test x)) xs ≡ true
none-filter test [] h = refl
none-filter test (x ∷ xs) h = go (test x) refl (λ k. none-filter test xs k)
  where
    go : (b : Bool) → test x ≡ b → (filter test xs ≡ [] → list_all (λ y. not (test y)) xs ≡ true) → list_all (λ y. not (test y)) (x ∷ xs) ≡ true
    go true e behind = let some : x ∷ filter test xs ≡ [] = rw e at h in absurd (cc)
    go false e behind = and_from _ _ (ap not e) (behind (rw e at h))

pub all-always : {X : Type 0} (p : X → Bool) → ((x : X) → p x ≡ true) → (xs : List X) → list_all p xs ≡ true
all-always p each [] = refl
all-always p each (x ∷ xs) = and_from _ _ (each x) (all-always p each xs)

all-both : {X : Type 0} (p q r : X → Bool) → ((x : X) → p x ≡ true → q x ≡ true → r x ≡ true) → (xs : List X) → list_all p xs ≡ true → list_all q xs ≡ true → list_all r xs ≡ true
all-both p q r both [] h k = refl
all-both p q r both (x ∷ xs) h k =
    let ps = and_parts (p x) (list_all p xs) h in
    let qs = and_parts (q x) (list_all q xs) k in
    and_from _ _ (both x ps.0 qs.0) (all-both p q r both xs ps.1 qs.1)

not-crowded : (polygons : List Polygon) → has_distinct_sides (all_sides polygons) ≡ true → (e : ℕ × ℕ) → not (is_crowded polygons e) ≡ true
not-crowded polygons distinct e =
    let le = edge-count-le e (all_sides polygons) in
    let one = distinct-count e (all_sides polygons) distinct in
    let other = distinct-count (e.1, e.0) (all_sides polygons) distinct in
    low (count_by (same_edge e) (all_sides polygons)) (omega arith)
  where
    low : (n : ℕ) → n ≤ 2 → not (nat_le 3 n) ≡ true
    low n h = grind (arith, nat_tests)

at-most-once : (m n : ℕ) → m ≤ 1 → n ≤ 1 → not (nat_le 2 m || nat_le 2 n) ≡ true
at-most-once m n h k = grind (arith, nat_tests)

once-each : (m n : ℕ) → not (nat_le 2 m || nat_le 2 n) ≡ true → (m ≤ 1) × (n ≤ 1)
once-each m n h = (grind (arith, nat_tests), grind (arith, nat_tests))

-- a manifold has no fault
no-fault : (points : ℕ) (polygons : List Polygon) → is_manifold points polygons ≡ true → mesh_faults points polygons ≡ []
no-fault points polygons h =
    let outer = and_parts (list_all is_simple polygons && has_distinct_sides (all_sides polygons)) (list_all (has_one_fan polygons) (range_with_len 0 points)) h in
    let inner = and_parts (list_all is_simple polygons) (has_distinct_sides (all_sides polygons)) outer.0 in
    let e1 : small_faces polygons ≡ [] = places-none (λ polygon. nat_lt (length polygon) 3) 0 polygons (all-weaker is_simple (λ polygon. not (nat_lt (length polygon) 3)) (λ p k. large p k) polygons inner.0) in
    let e2 : repeating_faces polygons ≡ [] = places-none (λ polygon. not (is_distinct polygon)) 0 polygons (all-weaker is_simple (λ polygon. not (not (is_distinct polygon))) (λ p k. distinct p k) polygons inner.0) in
    let e3 : crowded_edges polygons ≡ [] = filter-none (is_crowded polygons) (edges_of polygons) (all-always (λ e. not (is_crowded polygons e)) (not-crowded polygons inner.1) (edges_of polygons)) in
    let e4 : clashing_edges polygons ≡ [] = filter-none (is_clashing polygons) (edges_of polygons) (all-always (λ e. not (is_clashing polygons e)) (λ e. at-most-once _ _ (distinct-count e (all_sides polygons) inner.1) (distinct-count (reversed e) (all_sides polygons) inner.1)) (edges_of polygons)) in
    let e5 : split_vertices points polygons ≡ [] = filter-none (λ v. not (has_one_fan polygons v)) (range_with_len 0 points) (all-weaker (has_one_fan polygons) (λ v. not (not (has_one_fan polygons v))) (λ v k. ap (λ b. not (not b)) k) (range_with_len 0 points) outer.1) in
    rw (e1, e2, e3, e4, e5) refl
  where
    large : (p : Polygon) → is_simple p ≡ true → not (nat_lt (length p) 3) ≡ true
    large p k = grind (arith, nat_tests)

    distinct : (p : Polygon) → is_simple p ≡ true → not (not (is_distinct p)) ≡ true
    distinct p k = grind (arith, nat_tests)

same-either : (s e : ℕ × ℕ) → same_edge s e ≡ true → (same_side s e ≡ true) ⊎ (same_side s (reversed e) ≡ true)
same-either s e h = or_cases (same_side s e) (nat_eq s.0 e.1 && nat_eq s.1 e.0) h

-- where no edge clashes, no side occurs twice
sides-once : (polygons : List Polygon) → list_all (λ e. not (is_clashing polygons e)) (edges_of polygons) ≡ true → (s : ℕ × ℕ) → times_used polygons s ≤ 1
sides-once polygons none s = go (list_any (same_side s) (all_sides polygons)) refl
  where
    alike : (a b : ℕ × ℕ) → same_side a b ≡ true → times_used polygons a ≡ times_used polygons b
    alike a b k = count-agree (same_side a) (same_side b) (λ u. same_side-alike a b u k) (all_sides polygons)

    at : (e : ℕ × ℕ) → not (is_clashing polygons e) ≡ true → (same_side s e ≡ true) ⊎ (same_side s (reversed e) ≡ true) → times_used polygons s ≤ 1
    at e k (inl same) = omega (arith, (once-each (times_used polygons e) (times_used polygons (reversed e)) k).0, alike s e same)
    at e k (inr same) = omega (arith, (once-each (times_used polygons e) (times_used polygons (reversed e)) k).1, alike s (reversed e) same)

    go : (b : Bool) → list_any (same_side s) (all_sides polygons) ≡ b → times_used polygons s ≤ 1
    go false e = omega (arith, count-none (same_side s) (all_sides polygons) e)
    go true e =
        let named : list_any (same_edge s) (edges_of polygons) ≡ true = any-first_named s (all_sides polygons) ∙ any-side-edge s (all_sides polygons) e in
        let found = any-all (same_edge s) (λ edge. not (is_clashing polygons edge)) (edges_of polygons) named none in
        at found.0 found.2 (same-either s found.0 found.1)

-- polygons without fault are a manifold
manifold-from_no_fault : (points : ℕ) (polygons : List Polygon) → mesh_faults points polygons ≡ [] → is_manifold points polygons ≡ true
manifold-from_no_fault points polygons h =
    let s1 = append-none (map FaceTooSmall (small_faces polygons)) _ h in
    let s2 = append-none (map RepeatedVertex (repeating_faces polygons)) _ s1.1 in
    let s3 = append-none (map (λ (edge : ℕ × ℕ). NonManifoldEdge edge.0 edge.1) (crowded_edges polygons)) _ s2.1 in
    let s4 = append-none (map (λ (edge : ℕ × ℕ). WindingClash edge.0 edge.1) (clashing_edges polygons)) _ s3.1 in
    let large = none-places (λ polygon. nat_lt (length polygon) 3) 0 polygons (map-none FaceTooSmall (small_faces polygons) s1.0) in
    let distinct = none-places (λ polygon. not (is_distinct polygon)) 0 polygons (map-none RepeatedVertex (repeating_faces polygons) s2.0) in
    let calm = none-filter (is_clashing polygons) (edges_of polygons) (map-none (λ (edge : ℕ × ℕ). WindingClash edge.0 edge.1) (clashing_edges polygons) s4.0) in
    let joined = none-filter (λ v. not (has_one_fan polygons v)) (range_with_len 0 points) (map-none SplitVertex (split_vertices points polygons) s4.1) in
    let simple = all-both (λ (polygon : Polygon). not (nat_lt (length polygon) 3)) (λ (polygon : Polygon). not (not (is_distinct polygon))) is_simple (λ p m n. both p m n) polygons large distinct in
    let once = distinct-from_count (all_sides polygons) (sides-once polygons calm) in
    let fans = all-weaker (λ v. not (not (has_one_fan polygons v))) (has_one_fan polygons) (λ v m. twice (has_one_fan polygons v) m) (range_with_len 0 points) joined in
    and_from _ _ (and_from _ _ simple once) fans
  where
    both : (p : Polygon) → not (nat_lt (length p) 3) ≡ true → not (not (is_distinct p)) ≡ true → is_simple p ≡ true
    both p m n = grind (arith, nat_tests)

    twice : (b : Bool) → not (not b) ≡ true → b ≡ true
    twice true m = refl
    twice false m = m

-- the first fault is none exactly at a manifold
pub fault-decides : (points : ℕ) (polygons : List Polygon) → (first_mesh_fault points polygons ≡ None) ↔ IsTrue (is_manifold points polygons)
fault-decides points polygons = (λ h. manifold-from_no_fault points polygons (first-none (mesh_faults points polygons) h), λ h. ap first_of (no-fault points polygons h))

-- in a manifold each edge has one or two faces
pub edge-faces : (polygons : List Polygon) → list_all is_simple polygons ≡ true → has_distinct_sides (all_sides polygons) ≡ true → All (λ edge. (1 ≤ length (faces_of_edge polygons edge)) × (length (faces_of_edge polygons edge) ≤ 2)) (edges_of polygons)
edge-faces polygons simple distinct k d h =
    let e : ℕ × ℕ = get_or (edges_of polygons) k d in
    let there : list_any (same_edge e) (edges_of polygons) ≡ true = list_any_at (same_edge e) (edges_of polygons) k d h (same_edge-refl e) in
    let some : 1 ≤ count_by (same_edge e) (all_sides polygons) = count-some (same_edge e) (all_sides polygons) (sym (any-first_named e (all_sides polygons)) ∙ there) in
    let faces = faces-count e 0 polygons simple in
    let le = edge-count-le e (all_sides polygons) in
    let one = distinct-count e (all_sides polygons) distinct in
    let other = distinct-count (e.1, e.0) (all_sides polygons) distinct in
    (omega arith, omega arith)
