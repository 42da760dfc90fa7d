-- The test for one fan at a point decides whether the faces there can be listed as a fan.
use Rattle.std.proofs.Common.{◌≡◌, ℕ, zero, suc, ◌+◌, ◌<◌, ◌≤◌, Bool, true, false, ◌&&◌, nat_eq, nat_le, List, [], ◌∷◌, length, get_or, arith, refl, ap, sym, ◌∙◌, ◌⊎◌, inl, inr}
use Rattle.std.specs.List.{list_any, list_all, count_by}
use Rattle.std.proofs.lemmas.Bool.Decides.{nat_tests}
use Rattle.std.proofs.lemmas.Bool.{and_parts, and_from, eqb-true}
use Rattle.subdiv_model.specs.Polygons.{Polygon, same_side, sides_of, has_side, has_corner, is_among, is_distinct, has_distinct_sides, polygon_at}
use Rattle.subdiv_model.specs.Lists.{places_from}
use Rattle.subdiv_model.specs.Edges.{all_sides, faces_of_point}
use Rattle.subdiv_model.specs.Manifold.{IsSuccessor, is_successor, is_simple}
use Rattle.number_laws.proofs.CountLemmas.{count-append, count-some, any-weaker}
use Rattle.mesh_laws.proofs.SideLemmas.{same_side-refl, side-place, among-place, next-corner, distinct-places, distinct-count}
use Rattle.mesh_laws.proofs.ClosedLemmas.{any-here}

-- the places of what passes
pub places-before : {X : Type 0} (test : X → Bool) (place n : ℕ) (xs : List X) → n < place → is_among (places_from place test xs) n ≡ false
places-before test place n [] h = refl
places-before test place n (x ∷ xs) h = let behind = places-before test (place + 1) n xs (omega arith) in grind (arith, nat_tests)

pub places-at : {X : Type 0} (test : X → Bool) (d : X) → test d ≡ false → (place k : ℕ) (xs : List X) → is_among (places_from place test xs) (place + k) ≡ test (get_or xs k d)
places-at test d none place k [] = sym none
places-at test d none place zero (x ∷ xs) = let behind = places-before test (place + 1) (place + 0) xs (omega arith) in grind (arith, nat_tests)
places-at test d none place (suc k) (x ∷ xs) =
    let e : place + 1 + k ≡ place + suc k = omega arith in
    let behind = ap (is_among (places_from (place + 1) test xs)) (sym e) ∙ places-at test d none (place + 1) k xs in
    grind (arith, nat_tests)

pub faces-among : (polygons : List Polygon) (v face : ℕ) → is_among (faces_of_point polygons v) face ≡ has_corner v (polygon_at polygons face)
faces-among polygons v face =
    let e : face ≡ 0 + face = omega arith in
    ap (is_among (faces_of_point polygons v)) e ∙ places-at (has_corner v) [] refl 0 face polygons

-- a side that passes
pub any-side : (p : ℕ × ℕ → Bool) (sides : List (ℕ × ℕ)) → list_any p sides ≡ true → (s : ℕ × ℕ) × (p s ≡ true) × (list_any (same_side s) sides ≡ true)
any-side p [] h = absurd (cc)
any-side p (s ∷ sides) h = here (p s) refl (λ m. any-side p sides m)
  where
    here : (b : Bool) → p s ≡ b → (list_any p sides ≡ true → (t : ℕ × ℕ) × (p t ≡ true) × (list_any (same_side t) sides ≡ true)) → (t : ℕ × ℕ) × (p t ≡ true) × (list_any (same_side t) (s ∷ sides) ≡ true)
    here true e behind = (s, e, let self = same_side-refl s in grind (arith, nat_tests))
    here false e behind =
        let more : list_any p sides ≡ true = grind (arith, nat_tests) in
        let found = behind more in
        (found.0, found.1, let there = found.2 in grind (arith, nat_tests))

-- a number that passes
pub any-number : (p : ℕ → Bool) (numbers : List ℕ) → list_any p numbers ≡ true → (n : ℕ) × (p n ≡ true) × (is_among numbers n ≡ true)
any-number p [] h = absurd (cc)
any-number p (n ∷ numbers) h = here (p n) refl (λ m. any-number p numbers m)
  where
    here : (b : Bool) → p n ≡ b → (list_any p numbers ≡ true → (m : ℕ) × (p m ≡ true) × (is_among numbers m ≡ true)) → (m : ℕ) × (p m ≡ true) × (is_among (n ∷ numbers) m ≡ true)
    here true e behind = (n, e, grind (arith, nat_tests))
    here false e behind =
        let more : list_any p numbers ≡ true = grind (arith, nat_tests) in
        let found = behind more in
        (found.0, found.1, let there = found.2 in grind (arith, nat_tests))

pub number-any : (p : ℕ → Bool) (numbers : List ℕ) (n : ℕ) → p n ≡ true → is_among numbers n ≡ true → list_any p numbers ≡ true
number-any p [] n h there = there
number-any p (m ∷ numbers) n h there = here (nat_eq n m) refl (λ k. number-any p numbers n h k)
  where
    here : (b : Bool) → nat_eq n m ≡ b → (is_among numbers n ≡ true → list_any p numbers ≡ true) → list_any p (m ∷ numbers) ≡ true
    here true e behind = let first : p m ≡ true = ap p (sym (eqb-true n m e)) ∙ h in grind (arith, nat_tests)
    here false e behind =
        let more : is_among numbers n ≡ true = grind (arith, nat_tests) in
        let found = behind more in grind (arith, nat_tests)

-- the test for a successor is sound
pub successor-from_test : (polygons : List Polygon) (v face next : ℕ) → is_successor polygons v face next ≡ true → IsSuccessor polygons v face next
successor-from_test polygons v face next h =
    let found = any-side (λ side. nat_eq v side.0 && has_side (side.1, v) (polygon_at polygons next)) (sides_of (polygon_at polygons face)) h in
    let s : ℕ × ℕ = found.0 in
    let parts = and_parts (nat_eq v s.0) (has_side (s.1, v) (polygon_at polygons next)) found.1 in
    record {
      corner = s.1;
      follows = ap (λ (n : ℕ). has_side (n, s.1) (polygon_at polygons face)) (eqb-true v s.0 parts.0) ∙ found.2;
      leads_back = parts.1;
    }

pub successor-test : (polygons : List Polygon) (v face next : ℕ) → IsSuccessor polygons v face next → is_successor polygons v face next ≡ true
successor-test polygons v face next is =
    any-weaker (same_side (v, is.corner)) (λ side. nat_eq v side.0 && has_side (side.1, v) (polygon_at polygons next)) (λ s h.
    let parts = and_parts (nat_eq v s.0) (nat_eq is.corner s.1) h in
    and_from _ _ parts.0 (ap (λ (n : ℕ). has_side (n, v) (polygon_at polygons next)) (sym (eqb-true is.corner s.1 parts.1)) ∙ is.leads_back)) (sides_of (polygon_at polygons face)) is.follows

-- one corner follows a corner in a polygon of distinct corners
pub follower-unique : (polygon : Polygon) (v a b : ℕ) → is_distinct polygon ≡ true → has_side (v, a) polygon ≡ true → has_side (v, b) polygon ≡ true → a ≡ b
follower-unique [] v a b d h k = absurd (cc)
follower-unique (first ∷ rest) v a b d h k =
    let at_a = side-place first (first ∷ rest) (v, a) h in
    let at_b = side-place first (first ∷ rest) (v, b) k in
    let same = distinct-places (first ∷ rest) at_a.0 at_b.0 d at_a.1 at_b.1 (at_a.2 ∙ sym at_b.2) in
    sym at_a.3 ∙ ap (λ n. get_or (first ∷ rest) (suc n) first) same ∙ at_b.3

-- one corner leads to a corner in a polygon of distinct corners
pub leader-unique : (polygon : Polygon) (v a b : ℕ) → is_distinct polygon ≡ true → has_side (a, v) polygon ≡ true → has_side (b, v) polygon ≡ true → a ≡ b
leader-unique [] v a b d h k = absurd (cc)
leader-unique (first ∷ rest) v a b d h k =
    let at_a = side-place first (first ∷ rest) (a, v) h in
    let at_b = side-place first (first ∷ rest) (b, v) k in
    sym at_a.2 ∙ ap (λ n. get_or (first ∷ rest) n 0) (same at_a.0 at_b.0 at_a.1 at_b.1 at_a.3 at_b.3 (next-corner first rest at_a.0 at_a.1) (next-corner first rest at_b.0 at_b.1)) ∙ at_b.2
  where
    Next : ℕ → Type 0
    Next i = ((suc i < length (first ∷ rest)) × (get_or (first ∷ rest) (suc i) first ≡ get_or (first ∷ rest) (suc i) 0)) ⊎ ((suc i ≡ length (first ∷ rest)) × (get_or (first ∷ rest) (suc i) first ≡ first))

    same : (i j : ℕ) → i < length (first ∷ rest) → j < length (first ∷ rest) → get_or (first ∷ rest) (suc i) first ≡ v → get_or (first ∷ rest) (suc j) first ≡ v → Next i → Next j → i ≡ j
    same i j hi hj vi vj (inl m) (inl n) = let e = distinct-places (first ∷ rest) (suc i) (suc j) d m.0 n.0 (sym m.1 ∙ vi ∙ sym vj ∙ n.1) in omega (arith, e)
    same i j hi hj vi vj (inl m) (inr n) = let e = distinct-places (first ∷ rest) (suc i) 0 d m.0 (omega arith) (sym m.1 ∙ vi ∙ sym vj ∙ n.1) in absurd (omega (arith, e))
    same i j hi hj vi vj (inr m) (inl n) = let e = distinct-places (first ∷ rest) 0 (suc j) d (omega arith) n.0 (sym m.1 ∙ vi ∙ sym vj ∙ n.1) in absurd (omega (arith, e))
    same i j hi hj vi vj (inr m) (inr n) = omega (arith, m.0, n.0)

-- both ends of a side are corners
pub side-start : (polygon : Polygon) (s : ℕ × ℕ) → has_side s polygon ≡ true → has_corner s.0 polygon ≡ true
side-start [] s h = h
side-start (first ∷ rest) s h = let at = side-place first (first ∷ rest) s h in among-place s.0 (first ∷ rest) at.0 at.1 at.2

pub side-end : (polygon : Polygon) (s : ℕ × ℕ) → has_side s polygon ≡ true → has_corner s.1 polygon ≡ true
side-end [] s h = h
side-end (first ∷ rest) s h = let at = side-place first (first ∷ rest) s h in go at.0 at.3 (next-corner first rest at.0 at.1)
  where
    go : (i : ℕ) → get_or (first ∷ rest) (suc i) first ≡ s.1 → ((suc i < length (first ∷ rest)) × (get_or (first ∷ rest) (suc i) first ≡ get_or (first ∷ rest) (suc i) 0)) ⊎ ((suc i ≡ length (first ∷ rest)) × (get_or (first ∷ rest) (suc i) first ≡ first)) → has_corner s.1 (first ∷ rest) ≡ true
    go i e (inl m) = among-place s.1 (first ∷ rest) (suc i) m.0 (sym m.1 ∙ e)
    go i e (inr m) = among-place s.1 (first ∷ rest) 0 (omega arith) (sym m.1 ∙ e)

-- one polygon has a side that occurs once
pub owner-unique : (polygons : List Polygon) (s : ℕ × ℕ) (f g : ℕ) → count_by (same_side s) (all_sides polygons) ≤ 1 → has_side s (polygon_at polygons f) ≡ true → has_side s (polygon_at polygons g) ≡ true → f ≡ g
owner-unique [] s f g once h k = absurd (cc)
owner-unique (polygon ∷ polygons) s zero zero once h k = refl
owner-unique (polygon ∷ polygons) s zero (suc g) once h k =
    let both = count-append (same_side s) (sides_of polygon) (all_sides polygons) in
    let here = count-some (same_side s) (sides_of polygon) h in
    let there = count-some (same_side s) (all_sides polygons) (any-here (same_side s) polygons g k) in
    absurd (omega arith)
owner-unique (polygon ∷ polygons) s (suc f) zero once h k =
    let both = count-append (same_side s) (sides_of polygon) (all_sides polygons) in
    let here = count-some (same_side s) (sides_of polygon) k in
    let there = count-some (same_side s) (all_sides polygons) (any-here (same_side s) polygons f h) in
    absurd (omega arith)
owner-unique (polygon ∷ polygons) s (suc f) (suc g) once h k =
    let both = count-append (same_side s) (sides_of polygon) (all_sides polygons) in
    ap suc (owner-unique polygons s f g (omega arith) h k)

pub distinct-at : (polygons : List Polygon) (f : ℕ) → list_all is_simple polygons ≡ true → is_distinct (polygon_at polygons f) ≡ true
distinct-at [] f simple = refl
distinct-at (polygon ∷ polygons) zero simple = (and_parts (nat_le 3 (length polygon)) (is_distinct polygon) (and_parts (is_simple polygon) (list_all is_simple polygons) simple).0).1
distinct-at (polygon ∷ polygons) (suc f) simple = distinct-at polygons f (and_parts (is_simple polygon) (list_all is_simple polygons) simple).1

pub successor-unique : (polygons : List Polygon) → list_all is_simple polygons ≡ true → has_distinct_sides (all_sides polygons) ≡ true → (v face f g : ℕ) → IsSuccessor polygons v face f → IsSuccessor polygons v face g → f ≡ g
successor-unique polygons simple distinct v face f g at_f at_g =
    let same = follower-unique (polygon_at polygons face) v at_f.corner at_g.corner (distinct-at polygons face simple) at_f.follows at_g.follows in
    let back : has_side (at_f.corner, v) (polygon_at polygons g) ≡ true = ap (λ (n : ℕ). has_side (n, v) (polygon_at polygons g)) same ∙ at_g.leads_back in
    owner-unique polygons (at_f.corner, v) f g (distinct-count (at_f.corner, v) (all_sides polygons) distinct) at_f.leads_back back
