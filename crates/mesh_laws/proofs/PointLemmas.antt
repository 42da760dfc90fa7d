-- The numbers of faces and edges at a point. They are equal if no edge there has one face. If one edge of one face leaves a
-- point, another enters it.
use Rattle.std.proofs.Common.{◌≡◌, ℕ, zero, suc, ◌+◌, ◌*◌, ◌≤◌, Bool, true, false, not, ◌&&◌, ◌||◌, nat_eq, nat_lt, nat_le, List, [], ◌∷◌, length, get_or, arith, refl, ap, sym, ◌∙◌}
use Rattle.std.specs.List.{list_any, list_all, sum_by, count_by}
use Rattle.std.proofs.lemmas.Bool.Decides.{nat_tests}
use Rattle.std.proofs.lemmas.Bool.{and_parts, and_from, eqb-true, eq-eqb, not-true, false_from_ne_true}
use Rattle.std.proofs.lemmas.List.Sums.{length-filter, list_all-from_AllPass}
use Rattle.std.proofs.lemmas.List.Folds.{list_any_at}
use Rattle.std.proofs.Math.Nat.{one-mul, zero-mul, mul-one}
use Rattle.subdiv_model.specs.Polygons.{Polygon, same_side, same_edge, sides_of, sides_back_to, has_side, has_corner, is_distinct, polygon_at, has_distinct_sides}
use Rattle.subdiv_model.specs.Lists.{places_from}
use Rattle.subdiv_model.specs.Edges.{all_sides, edges_of, edges_of_point, faces_of_edge, faces_of_point, has_end, is_boundary, reversed, times_used}
use Rattle.subdiv_model.specs.Base.{is_at_boundary}
use Rattle.subdiv_model.specs.Manifold.{is_simple}
use Rattle.number_laws.proofs.CountLemmas.{one_if, one-yes, one-no, count-cons, count-append, count-none, count-some, any-count, any-from_count, count-agree, sum-agree, sum-plus, sum-zero, any-weaker}
use Rattle.mesh_laws.proofs.SideLemmas.{same_side-refl, no-side-back, distinct-number-count, distinct-count, edge-count, same_edge-alike}
use Rattle.mesh_laws.proofs.EdgeLemmas.{any-first_named, faces-count}
use Rattle.mesh_laws.proofs.ClosedLemmas.{all-at, any-all, any-here, any-place, any-side-edge, no-loop, sides-pass, first_named-all}
use Rattle.mesh_laws.proofs.FaultLemmas.{edge-faces}
use Rattle.mesh_laws.proofs.Laws.{named-once}

-- the directed edge starts at the point
abbrev pub starts_at : ℕ → ℕ × ℕ → Bool
starts_at v side = nat_eq v side.0

path-starts : (v first : ℕ) (path : Polygon) → count_by (starts_at v) (sides_back_to first path) ≡ count_by (nat_eq v) path
path-starts v first [] = refl
path-starts v first (w ∷ rest) =
    count-cons (starts_at v) (w, get_or rest 0 first) (sides_back_to first rest)
    ∙ ap (λ n. one_if (nat_eq v w) + n) (path-starts v first rest)
    ∙ sym (count-cons (nat_eq v) w rest)

polygon-starts : (v : ℕ) (polygon : Polygon) → count_by (starts_at v) (sides_of polygon) ≡ count_by (nat_eq v) polygon
polygon-starts v [] = refl
polygon-starts v (w ∷ rest) = path-starts v w (w ∷ rest)

-- a simple polygon starts one side at each of its corners
simple-starts : (v : ℕ) (polygon : Polygon) → is_simple polygon ≡ true
    → count_by (starts_at v) (sides_of polygon) ≡ one_if (has_corner v polygon)
simple-starts v polygon simple =
    let parts = and_parts (nat_le 3 (length polygon)) (is_distinct polygon) simple in
    polygon-starts v polygon ∙ at_most (count_by (nat_eq v) polygon) (distinct-number-count v polygon parts.1)
    ∙ ap one_if (sym (any-count (nat_eq v) polygon))
  where
    at_most : (n : ℕ) → n ≤ 1 → n ≡ one_if (nat_lt 0 n)
    at_most zero h = refl
    at_most (suc n) h = grind (arith, nat_tests)

place-count : (test : Polygon → Bool) (place : ℕ) (polygon : Polygon) (polygons : List Polygon)
    → length (places_from place test (polygon ∷ polygons)) ≡ one_if (test polygon) + length (places_from (place + 1) test polygons)
place-count test place polygon polygons = grind (arith, nat_tests)

-- each face at the point starts one side there
faces-starts : (v place : ℕ) (polygons : List Polygon) → list_all is_simple polygons ≡ true
    → length (places_from place (has_corner v) polygons) ≡ count_by (starts_at v) (all_sides polygons)
faces-starts v place [] h = refl
faces-starts v place (polygon ∷ polygons) h =
    let parts = and_parts (is_simple polygon) (list_all is_simple polygons) h in
    place-count (has_corner v) place polygon polygons
    ∙ ap (λ n. n + length (places_from (place + 1) (has_corner v) polygons)) (sym (simple-starts v polygon parts.0))
    ∙ ap (λ n. count_by (starts_at v) (sides_of polygon) + n) (faces-starts v (place + 1) polygons parts.1)
    ∙ sym (count-append (starts_at v) (sides_of polygon) (all_sides polygons))

-- Sides that each have one of the edges: those that pass are counted edge by edge.
sum-same : {X : Type 0} (f g : X → ℕ) → ((x : X) → f x ≡ g x) → (xs : List X) → sum_by f xs ≡ sum_by g xs
sum-same f g h xs = λ i. sum_by (λ x. h x i) xs

one-edge : (p : Bool) (s : ℕ × ℕ) (edges : List (ℕ × ℕ))
    → sum_by (λ e. one_if (p && same_edge s e)) edges ≡ one_if p * count_by (same_edge s) edges
one-edge true s edges = sym (one-mul (count_by (same_edge s) edges))
one-edge false s edges = sum-zero (λ e. 0) (λ e. refl) edges ∙ sym (zero-mul (count_by (same_edge s) edges))

by-edges : (p : ℕ × ℕ → Bool) (sides edges : List (ℕ × ℕ)) → list_all (λ s. nat_eq (count_by (same_edge s) edges) 1) sides ≡ true
    → count_by p sides ≡ sum_by (λ e. count_by (λ s. p s && same_edge s e) sides) edges
by-edges p [] edges h = sym (sum-zero (λ e. 0) (λ e. refl) edges)
by-edges p (s ∷ sides) edges h =
    let parts = and_parts (nat_eq (count_by (same_edge s) edges) 1) (list_all (λ t. nat_eq (count_by (same_edge t) edges) 1) sides) h in
    let once : count_by (same_edge s) edges ≡ 1 = eqb-true (count_by (same_edge s) edges) 1 parts.0 in
    let own : one_if (p s) * count_by (same_edge s) edges ≡ one_if (p s) = ap (λ n. one_if (p s) * n) once ∙ mul-one (one_if (p s)) in
    count-cons p s sides
    ∙ ap (λ n. one_if (p s) + n) (by-edges p sides edges parts.1)
    ∙ ap (λ n. n + sum_by (λ e. count_by (λ t. p t && same_edge t e) sides) edges) (sym own ∙ sym (one-edge (p s) s edges))
    ∙ sym (sum-plus (λ e. one_if (p s && same_edge s e)) (λ e. count_by (λ t. p t && same_edge t e) sides) edges)
    ∙ sym (sum-same (λ e. count_by (λ t. p t && same_edge t e) (s ∷ sides))
    (λ e. one_if (p s && same_edge s e) + count_by (λ t. p t && same_edge t e) sides)
    (λ e. count-cons (λ t. p t && same_edge t e) s sides) edges)

ends-first : (v : ℕ) (e s : ℕ × ℕ) → nat_eq v e.0 ≡ true → nat_eq e.0 e.1 ≡ false → (starts_at v s && same_edge s e) ≡ same_side e s
ends-first v e s h k = grind (arith, nat_tests)

ends-second : (v : ℕ) (e s : ℕ × ℕ) → nat_eq v e.0 ≡ false → nat_eq v e.1 ≡ true
    → (starts_at v s && same_edge s e) ≡ same_side (reversed e) s
ends-second v e s h k = grind (arith, nat_tests)

ends-never : (v : ℕ) (e s : ℕ × ℕ) → nat_eq v e.0 ≡ false → nat_eq v e.1 ≡ false → (starts_at v s && same_edge s e) ≡ false
ends-never v e s h k = grind (arith, nat_tests)

-- the directed edge ends at the point
abbrev stops_at : ℕ → ℕ × ℕ → Bool
stops_at v side = nat_eq v side.1

path-stops : (v first w : ℕ) (rest : Polygon)
    → count_by (stops_at v) (sides_back_to first (w ∷ rest)) + one_if (nat_eq v w) ≡ count_by (nat_eq v) (w ∷ rest) + one_if (nat_eq v first)
path-stops v first w [] =
    omega (arith, count-cons (stops_at v) (w, first) [], count-cons (nat_eq v) w [])
path-stops v first w (x ∷ rest) =
    omega (arith, count-cons (stops_at v) (w, x) (sides_back_to first (x ∷ rest)), count-cons (nat_eq v) w (x ∷ rest), path-stops v first x rest)

-- a polygon stops as many sides at a point as it starts there
polygon-stops : (v : ℕ) (polygon : Polygon) → count_by (stops_at v) (sides_of polygon) ≡ count_by (starts_at v) (sides_of polygon)
polygon-stops v [] = refl
polygon-stops v (w ∷ rest) = omega (arith, path-stops v w w rest, path-starts v w (w ∷ rest))

pub among-themselves : (sides : List (ℕ × ℕ)) → list_all (λ s. list_any (same_side s) sides) sides ≡ true
among-themselves sides =
    list_all-from_AllPass (λ s. list_any (same_side s) sides) sides
    (λ k d h. list_any_at (same_side (get_or sides k d)) sides k d h (same_side-refl (get_or sides k d)))

count-both : {X : Type 0} (p q r : X → Bool) → ((x : X) → one_if (p x) + one_if (q x) ≤ one_if (r x)) → (xs : List X)
    → count_by p xs + count_by q xs ≤ count_by r xs
count-both p q r h [] = omega arith
count-both p q r h (x ∷ xs) =
    omega (arith, count-cons p x xs, count-cons q x xs, count-cons r x xs, h x, count-both p q r h xs)

all-stops : (v : ℕ) (polygons : List Polygon) → count_by (stops_at v) (all_sides polygons) ≡ count_by (starts_at v) (all_sides polygons)
all-stops v [] = refl
all-stops v (polygon ∷ polygons) =
    omega (
      arith,
      count-append (stops_at v) (sides_of polygon) (all_sides polygons),
      count-append (starts_at v) (sides_of polygon) (all_sides polygons),
      polygon-stops v polygon,
      all-stops v polygons,
    )

stops-first : (v : ℕ) (e s : ℕ × ℕ) → nat_eq v e.0 ≡ true → nat_eq e.0 e.1 ≡ false
    → (stops_at v s && same_edge s e) ≡ same_side (reversed e) s
stops-first v e s h k = grind (arith, nat_tests)

stops-second : (v : ℕ) (e s : ℕ × ℕ) → nat_eq v e.0 ≡ false → nat_eq v e.1 ≡ true → (stops_at v s && same_edge s e) ≡ same_side e s
stops-second v e s h k = grind (arith, nat_tests)

stops-never : (v : ℕ) (e s : ℕ × ℕ) → nat_eq v e.0 ≡ false → nat_eq v e.1 ≡ false → (stops_at v s && same_edge s e) ≡ false
stops-never v e s h k = grind (arith, nat_tests)

-- an edge of one face leaves the point, or enters it
abbrev leaves : List Polygon → ℕ → ℕ × ℕ → Bool
leaves polygons v e = is_boundary polygons e && nat_eq v e.0

abbrev enters : List Polygon → ℕ → ℕ × ℕ → Bool
enters polygons v e = is_boundary polygons e && nat_eq v e.1

abbrev meets : List Polygon → ℕ → ℕ × ℕ → Bool
meets polygons v e = is_boundary polygons e && has_end v e

-- an edge between two points, used once as it is listed, and once the other way unless it is of one face
abbrev is_plain : List Polygon → ℕ × ℕ → Bool
is_plain polygons e =
    not (nat_eq e.0 e.1) &&
    (nat_eq (times_used polygons e) 1 && nat_eq (times_used polygons (reversed e) + one_if (is_boundary polygons e)) 1)

record IsPlain (polygons : List Polygon) (e : ℕ × ℕ) : Type 0 where
  apart : nat_eq e.0 e.1 ≡ false
  once : times_used polygons e ≡ 1
  back : times_used polygons (reversed e) + one_if (is_boundary polygons e) ≡ 1

plain-edge : (polygons : List Polygon) (e : ℕ × ℕ) → is_plain polygons e ≡ true → IsPlain polygons e
plain-edge polygons e h =
    let first =
    and_parts (not (nat_eq e.0 e.1))
    (nat_eq (times_used polygons e) 1 && nat_eq (times_used polygons (reversed e) + one_if (is_boundary polygons e)) 1) h in
    let second =
    and_parts (nat_eq (times_used polygons e) 1) (nat_eq (times_used polygons (reversed e) + one_if (is_boundary polygons e)) 1) first.1 in
    record { apart = not-true (nat_eq e.0 e.1) first.0; once = eqb-true _ 1 second.0; back = eqb-true _ 1 second.1 }

both-yes : (b c : Bool) → c ≡ true → one_if (b && c) ≡ one_if b
both-yes true c h = ap one_if h
both-yes false c h = refl

both-no : (b c : Bool) → c ≡ false → one_if (b && c) ≡ 0
both-no true c h = ap one_if h
both-no false c h = refl

-- a plain edge starts a side at each of its ends, unless it is of one face and enters there
plain-starts : (v : ℕ) (polygons : List Polygon) (e : ℕ × ℕ) → IsPlain polygons e
    → count_by (λ s. starts_at v s && same_edge s e) (all_sides polygons) + one_if (enters polygons v e) ≡ one_if (has_end v e)
plain-starts v polygons e is = here (nat_eq v e.0) (nat_eq v e.1) refl refl
  where
    counted : (p : ℕ × ℕ → Bool) → ((s : ℕ × ℕ) → (starts_at v s && same_edge s e) ≡ p s)
        → count_by (λ s. starts_at v s && same_edge s e) (all_sides polygons) ≡ count_by p (all_sides polygons)
    counted p same = count-agree (λ s. starts_at v s && same_edge s e) p same (all_sides polygons)

    here : (a b : Bool) → nat_eq v e.0 ≡ a → nat_eq v e.1 ≡ b
        → count_by (λ s. starts_at v s && same_edge s e) (all_sides polygons) + one_if (enters polygons v e) ≡ one_if (has_end v e)
    here true b h k =
        let count = counted (same_side e) (λ s. ends-first v e s h is.apart) in
        let other : nat_eq v e.1 ≡ false = ap (λ n. nat_eq n e.1) (eqb-true v e.0 h) ∙ is.apart in
        let end : one_if (has_end v e) ≡ 1 = one-yes (has_end v e) (ap (λ x. x || nat_eq v e.1) h) in
        omega (arith, count, is.once, both-no (is_boundary polygons e) (nat_eq v e.1) other, end)
    here false true h k =
        let count = counted (same_side (reversed e)) (λ s. ends-second v e s h k) in
        let end : one_if (has_end v e) ≡ 1 = one-yes (has_end v e) (ap (λ x. x || nat_eq v e.1) h ∙ k) in
        omega (arith, count, is.back, both-yes (is_boundary polygons e) (nat_eq v e.1) k, end)
    here false false h k =
        let count = counted (λ s. false) (λ s. ends-never v e s h k) in
        let end : one_if (has_end v e) ≡ 0 = one-no (has_end v e) (ap (λ x. x || nat_eq v e.1) h ∙ k) in
        omega (
          arith,
          count,
          sum-zero (λ (s : ℕ × ℕ). 0) (λ s. refl) (all_sides polygons),
          both-no (is_boundary polygons e) (nat_eq v e.1) k,
          end,
        )

-- an edge stops one face at the point, unless it has one face and leaves the point
plain-stops : (v : ℕ) (polygons : List Polygon) (e : ℕ × ℕ) → IsPlain polygons e
    → count_by (λ s. stops_at v s && same_edge s e) (all_sides polygons) + one_if (leaves polygons v e) ≡ one_if (has_end v e)
plain-stops v polygons e is = here (nat_eq v e.0) (nat_eq v e.1) refl refl
  where
    counted : (p : ℕ × ℕ → Bool) → ((s : ℕ × ℕ) → (stops_at v s && same_edge s e) ≡ p s)
        → count_by (λ s. stops_at v s && same_edge s e) (all_sides polygons) ≡ count_by p (all_sides polygons)
    counted p same = count-agree (λ s. stops_at v s && same_edge s e) p same (all_sides polygons)

    here : (a b : Bool) → nat_eq v e.0 ≡ a → nat_eq v e.1 ≡ b
        → count_by (λ s. stops_at v s && same_edge s e) (all_sides polygons) + one_if (leaves polygons v e) ≡ one_if (has_end v e)
    here true b h k =
        let count = counted (same_side (reversed e)) (λ s. stops-first v e s h is.apart) in
        let end : one_if (has_end v e) ≡ 1 = one-yes (has_end v e) (ap (λ x. x || nat_eq v e.1) h) in
        omega (arith, count, is.back, both-yes (is_boundary polygons e) (nat_eq v e.0) h, end)
    here false true h k =
        let count = counted (same_side e) (λ s. stops-second v e s h k) in
        let end : one_if (has_end v e) ≡ 1 = one-yes (has_end v e) (ap (λ x. x || nat_eq v e.1) h ∙ k) in
        omega (arith, count, is.once, both-no (is_boundary polygons e) (nat_eq v e.0) h, end)
    here false false h k =
        let count = counted (λ s. false) (λ s. stops-never v e s h k) in
        let end : one_if (has_end v e) ≡ 0 = one-no (has_end v e) (ap (λ x. x || nat_eq v e.1) h ∙ k) in
        omega (
          arith,
          count,
          sum-zero (λ (s : ℕ × ℕ). 0) (λ s. refl) (all_sides polygons),
          both-no (is_boundary polygons e) (nat_eq v e.0) h,
          end,
        )

-- an edge of one face that has the point as an end leaves it or enters it, and not both
meets-once : (polygons : List Polygon) (v : ℕ) (e : ℕ × ℕ) → nat_eq e.0 e.1 ≡ false
    → one_if (meets polygons v e) ≡ one_if (leaves polygons v e) + one_if (enters polygons v e)
meets-once polygons v e apart = either (is_boundary polygons e) (nat_eq v e.0) (nat_eq v e.1) (λ h k. apart-ends h k)
  where
    either : (b x y : Bool) → (x ≡ true → y ≡ true → ⊥) → one_if (b && (x || y)) ≡ one_if (b && x) + one_if (b && y)
    either true true true h = absurd (h refl refl)
    either true true false h = refl
    either true false true h = refl
    either true false false h = refl
    either false x y h = refl

    apart-ends : nat_eq v e.0 ≡ true → nat_eq v e.1 ≡ true → ⊥
    apart-ends h k = grind (arith, nat_tests)

module _ (polygons : List Polygon) (simple : list_all is_simple polygons ≡ true) where
  -- an edge is of one face in either direction
  pub boundary-alike : (a b : ℕ × ℕ) → same_edge a b ≡ true → is_boundary polygons a ≡ is_boundary polygons b
  boundary-alike a b h =
      ap (λ n. nat_eq n 1)
      (faces-count a 0 polygons simple
      ∙ count-agree (same_edge a) (same_edge b) (λ u. same_edge-alike a b u h) (all_sides polygons) ∙ sym (faces-count b 0 polygons simple))

  -- an edge of one face is the edge of a side
  pub boundary-side : (a : ℕ × ℕ) → is_boundary polygons a ≡ true → list_any (same_edge a) (all_sides polygons) ≡ true
  boundary-side a h =
      let one : length (faces_of_edge polygons a) ≡ 1 = eqb-true _ 1 h in
      any-from_count (same_edge a) (all_sides polygons) (omega (arith, faces-count a 0 polygons simple))

  -- where one of the edges ends at a point, a side starts there
  some-start : (v : ℕ) → 1 ≤ length (edges_of_point polygons v) → list_any (starts_at v) (all_sides polygons) ≡ true
  some-start v h =
      let sides = all_sides polygons in
      let some : list_any (has_end v) (edges_of polygons) ≡ true =
      any-from_count (has_end v) (edges_of polygons) (omega (arith, length-filter (has_end v) (edges_of polygons))) in
      let listed =
      first_named-all (λ e. list_any (same_side e) sides) sides
      (sides-pass (λ e. list_any (same_side e) sides) polygons (λ a there. there)) in
      let found = any-all (has_end v) (λ e. list_any (same_side e) sides) (edges_of polygons) some listed in
      let side : list_any (has_end v) sides ≡ true =
      any-weaker (same_side found.0) (has_end v) (λ t k. end-kept v found.0 t found.1 k) sides found.2 in
      let ways = count-either v sides in
      any-from_count (starts_at v) sides (omega (arith, count-some (has_end v) sides side, all-stops v polygons))
    where
      end-kept : (v : ℕ) (s t : ℕ × ℕ) → has_end v s ≡ true → same_side s t ≡ true → has_end v t ≡ true
      end-kept v s t h k = grind (arith, nat_tests)

      count-either : (v : ℕ) (sides : List (ℕ × ℕ))
          → count_by (has_end v) sides ≤ count_by (starts_at v) sides + count_by (stops_at v) sides
      count-either v [] = omega arith
      count-either v (s ∷ sides) =
          let behind = count-either v sides in
          let here : one_if (has_end v s) ≤ one_if (starts_at v s) + one_if (stops_at v s) = grind (arith, nat_tests) in
          omega (arith, count-cons (has_end v) s sides, count-cons (starts_at v) s sides, count-cons (stops_at v) s sides)

  -- a point with an edge has at least two
  pub two-edges : (v : ℕ) → 1 ≤ length (edges_of_point polygons v) → 2 ≤ length (edges_of_point polygons v)
  two-edges v h =
      let sides = all_sides polygons in
      let out = any-all (starts_at v) (λ s. list_any (same_side s) sides) sides (some-start v h) (among-themselves sides) in
      let s : ℕ × ℕ = out.0 in
      let face = any-place (same_side s) polygons out.2 in
      let polygon : Polygon = polygon_at polygons face.0 in
      let one : is_simple polygon ≡ true = all-at is_simple polygons face.0 [] face.1 simple in
      let starts : list_any (starts_at v) (sides_of polygon) ≡ true =
      any-weaker (same_side s) (starts_at v) (λ t k. start-kept v s t out.1 k) (sides_of polygon) face.2 in
      let some : 1 ≤ count_by (starts_at v) (sides_of polygon) = count-some (starts_at v) (sides_of polygon) starts in
      let stops : list_any (stops_at v) (sides_of polygon) ≡ true =
      any-from_count (stops_at v) (sides_of polygon) (omega (arith, polygon-stops v polygon)) in
      let into =
      any-all (stops_at v) (λ t. list_any (same_side t) (sides_of polygon)) (sides_of polygon) stops
      (among-themselves (sides_of polygon)) in
      let t : ℕ × ℕ = into.0 in
      let apart : nat_eq s.1 t.0 ≡ false =
      false_from_ne_true (nat_eq s.1 t.0)
      (λ same. no-turn v polygon s t one face.2 into.2 (eqb-true v s.0 out.1) (eqb-true v t.1 into.1) (eqb-true s.1 t.0 same)) in
      omega (
        arith,
        length-filter (has_end v) (edges_of polygons),
        count-both (same_edge s) (same_edge t) (has_end v) (λ x. two-end v s t x out.1 into.1 apart) (edges_of polygons),
        named s out.2,
        named t (any-here (same_side t) polygons face.0 into.2),
      )
    where
      named : (a : ℕ × ℕ) → list_any (same_side a) (all_sides polygons) ≡ true → 1 ≤ count_by (same_edge a) (edges_of polygons)
      named a there = count-some (same_edge a) (edges_of polygons) (any-first_named a (all_sides polygons) ∙ any-side-edge a (all_sides polygons) there)

      start-kept : (v : ℕ) (s t : ℕ × ℕ) → nat_eq v s.0 ≡ true → same_side s t ≡ true → starts_at v t ≡ true
      start-kept v s t h k = grind (arith, nat_tests)

      two-end : (v : ℕ) (s t x : ℕ × ℕ) → nat_eq v s.0 ≡ true → nat_eq v t.1 ≡ true → nat_eq s.1 t.0 ≡ false
          → one_if (same_edge s x) + one_if (same_edge t x) ≤ one_if (has_end v x)
      two-end v s t x h k n = grind (arith, nat_tests)

      no-turn : (v : ℕ) (polygon : Polygon) (s t : ℕ × ℕ) → is_simple polygon ≡ true → has_side s polygon ≡ true → has_side t polygon ≡ true
          → v ≡ s.0 → v ≡ t.1 → s.1 ≡ t.0 → ⊥
      no-turn v polygon s t simple forth back h k same =
          let turned : has_side (s.1, s.0) polygon ≡ true =
          ap (λ (n : ℕ). has_side (n, s.0) polygon) same ∙ ap (λ (n : ℕ). has_side (t.0, n) polygon) (sym h ∙ k) ∙ back in
          no-side-back polygon s.0 s.1 simple forth turned

  module _ (distinct : has_distinct_sides (all_sides polygons) ≡ true) where
    -- the edge of a side occurs once as the side goes, and once the other way unless it is of one face
    side-plain : (a : ℕ × ℕ) → list_any (same_side a) (all_sides polygons) ≡ true → IsPlain polygons a
    side-plain a there =
        let apart = no-loop polygons a simple there in
        let some = count-some (same_side a) (all_sides polygons) there in
        let once : times_used polygons a ≡ 1 = omega (arith, distinct-count a (all_sides polygons) distinct) in
        let faces : length (faces_of_edge polygons a) ≡ 1 + times_used polygons (reversed a) =
        faces-count a 0 polygons simple ∙ edge-count a (all_sides polygons) apart ∙ ap (λ n. n + times_used polygons (reversed a)) once in
        record {
          apart = apart;
          once = once;
          back = boundary (length (faces_of_edge polygons a)) (times_used polygons (reversed a)) faces (distinct-count (reversed a) (all_sides polygons) distinct);
        }
      where
        boundary : (n back : ℕ) → n ≡ 1 + back → back ≤ 1 → back + one_if (nat_eq n 1) ≡ 1
        boundary n back h k = grind (arith, nat_tests)

    pub boundary-back : (a : ℕ × ℕ) → list_any (same_side a) (all_sides polygons) ≡ true
        → times_used polygons (reversed a) + one_if (is_boundary polygons a) ≡ 1
    boundary-back a there = (side-plain a there).back

    -- each edge has one face or two
    pub one-or-two : list_all (λ e. is_boundary polygons e || nat_eq (length (faces_of_edge polygons e)) 2) (edges_of polygons) ≡ true
    one-or-two =
        list_all-from_AllPass (λ e. is_boundary polygons e || nat_eq (length (faces_of_edge polygons e)) 2) (edges_of polygons) (λ k d h.
        let faces = edge-faces polygons simple distinct k d h in count (length (faces_of_edge polygons (get_or (edges_of polygons) k d))) faces.0 faces.1)
      where
        count : (n : ℕ) → 1 ≤ n → n ≤ 2 → (nat_eq n 1 || nat_eq n 2) ≡ true
        count n h k = grind (arith, nat_tests)

    all-plain : list_all (is_plain polygons) (edges_of polygons) ≡ true
    all-plain =
        first_named-all (is_plain polygons) (all_sides polygons) (sides-pass (is_plain polygons) polygons (λ a there.
        let is = side-plain a there in
        and_from _ _ (ap not is.apart) (and_from _ _ (eq-eqb _ 1 is.once) (eq-eqb _ 1 is.back))))

    -- each edge is named once by a side
    named : list_all (λ s. nat_eq (count_by (same_edge s) (edges_of polygons)) 1) (all_sides polygons) ≡ true
    named =
        list_all-from_AllPass (λ s. nat_eq (count_by (same_edge s) (edges_of polygons)) 1) (all_sides polygons) (λ k d h. eq-eqb _ 1 (named-once polygons k d h))

    -- the edges at a point are those that start a side there, and those of one face that enter
    edges-starts : (v : ℕ)
        → count_by (starts_at v) (all_sides polygons) + count_by (enters polygons v) (edges_of polygons) ≡ length (edges_of_point polygons v)
    edges-starts v =
        let own = λ (e : ℕ × ℕ). count_by (λ s. starts_at v s && same_edge s e) (all_sides polygons) in
        ap (λ n. n + count_by (enters polygons v) (edges_of polygons))
        (by-edges (starts_at v) (all_sides polygons) (edges_of polygons) named)
        ∙ sym (sum-plus own (λ e. one_if (enters polygons v e)) (edges_of polygons))
        ∙ sum-agree (is_plain polygons) (λ e. own e + one_if (enters polygons v e)) (λ e. one_if (has_end v e))
        (λ e h. plain-starts v polygons e (plain-edge polygons e h)) (edges_of polygons) all-plain
        ∙ sym (length-filter (has_end v) (edges_of polygons))

    -- the edges that stop one face at the point, and those of one face that leave it
    edges-stops : (v : ℕ)
        → count_by (stops_at v) (all_sides polygons) + count_by (leaves polygons v) (edges_of polygons) ≡ length (edges_of_point polygons v)
    edges-stops v =
        let own = λ (e : ℕ × ℕ). count_by (λ s. stops_at v s && same_edge s e) (all_sides polygons) in
        ap (λ n. n + count_by (leaves polygons v) (edges_of polygons))
        (by-edges (stops_at v) (all_sides polygons) (edges_of polygons) named)
        ∙ sym (sum-plus own (λ e. one_if (leaves polygons v e)) (edges_of polygons))
        ∙ sum-agree (is_plain polygons) (λ e. own e + one_if (leaves polygons v e)) (λ e. one_if (has_end v e))
        (λ e h. plain-stops v polygons e (plain-edge polygons e h)) (edges_of polygons) all-plain
        ∙ sym (length-filter (has_end v) (edges_of polygons))

    edges-meet : (v : ℕ)
        → count_by (meets polygons v) (edges_of polygons)
        ≡ count_by (leaves polygons v) (edges_of polygons) + count_by (enters polygons v) (edges_of polygons)
    edges-meet v =
        sum-agree (is_plain polygons) (λ e. one_if (meets polygons v e)) (λ e. one_if (leaves polygons v e) + one_if (enters polygons v e))
        (λ e h. meets-once polygons v e (plain-edge polygons e h).apart) (edges_of polygons) all-plain
        ∙ sum-plus (λ e. one_if (leaves polygons v e)) (λ e. one_if (enters polygons v e)) (edges_of polygons)

    -- away from the boundary a point has as many faces as edges
    pub interior-faces : (v : ℕ) → is_at_boundary polygons v ≡ false
        → length (faces_of_point polygons v) ≡ length (edges_of_point polygons v)
    interior-faces v h =
        omega (arith, faces-starts v 0 polygons simple, edges-starts v, edges-meet v, count-none (meets polygons v) (edges_of polygons) h)

    -- a point at the boundary has at least two edges of one face
    pub boundary-edges : (v : ℕ) → is_at_boundary polygons v ≡ true
        → 2 ≤ count_by (λ e. is_boundary polygons e && has_end v e) (edges_of polygons)
    boundary-edges v h =
        omega (arith, edges-starts v, edges-stops v, all-stops v polygons, edges-meet v, count-some (meets polygons v) (edges_of polygons) h)
