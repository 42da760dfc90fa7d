-- Child faces with the numbers of a part.
use Rattle.std.proofs.Common.{◌≡◌, ℕ, zero, suc, ◌+◌, ◌<◌, ◌≤◌, Bool, true, false, not, ◌||◌, nat_eq, nat_le, List, [], ◌∷◌, ◌++◌, length, map, take, get_or, arith, refl, ap, sym, ◌∙◌}
use Rattle.std.specs.List.{list_any, list_all, count_by, sum_by}
use Rattle.std.proofs.lemmas.Bool.Decides.{nat_tests}
use Rattle.std.proofs.lemmas.Bool.{and_parts, eqb-true, eq-eqb, ne_eqb, false_from_ne_true}
use Rattle.std.proofs.lemmas.Grind.{flat_map-append}
use Rattle.std.proofs.lemmas.List.{get_or-map, length-map, length-take-le, take_more, get_or-take}
use Rattle.std.proofs.lemmas.List.Sums.{list_all-from_AllPass}
use Rattle.subdiv_model.specs.Polygons.{Polygon, polygon_at, same_side, same_edge, sides_of, is_among, is_distinct, is_over, has_side, has_distinct_sides}
use Rattle.subdiv_model.specs.Edges.{all_sides}
use Rattle.subdiv_model.specs.Manifold.{is_simple}
use Rattle.subdiv_model.specs.Child.{child_polygons}
use Rattle.number_laws.proofs.CountLemmas.{count-append, count-none}
use Rattle.mesh_laws.proofs.SideLemmas.{distinct-from_count, polygon-side-count, same_side-refl}
use Rattle.mesh_laws.proofs.ClosedLemmas.{all-at, any-place}
use Rattle.mesh_laws.proofs.FanLemmas.{owner-unique, side-start, side-end}
use Rattle.mesh_laws.proofs.ChildFaceLemmas.{all-child, child-simple}
use Rattle.mesh_laws.proofs.ChildOnceLemmas.{child-times}
use Rattle.level_laws.proofs.FaceLemmas.{child_polygons-length}
use Rattle.child_slots.specs.Parts.{Part, IsPart, place_number, whole_quad, part_polygons, renumbered}
use Rattle.child_slots.proofs.SlotLemmas.{first-below}
use Rattle.child_slots.proofs.QuadLemmas.{child-quad, face-below}

-- a function that is injective at two numbers preserves the test of equality
number-test : (f : ℕ → ℕ) (a b : ℕ) → (f a ≡ f b → a ≡ b) → nat_eq (f a) (f b) ≡ nat_eq a b
number-test f a b tells = go (nat_eq a b) refl
  where
    go : (q : Bool) → nat_eq a b ≡ q → nat_eq (f a) (f b) ≡ q
    go true e = eq-eqb (f a) (f b) (ap f (eqb-true a b e))
    go false e = ne_eqb (f a) (f b) (λ same. let yes = eq-eqb a b (tells same) in absurd (cc))

-- a function that is injective at the ends preserves the test of equal edges
pub edge-renumbered : (f : ℕ → ℕ) (s t : ℕ × ℕ) → (f s.0 ≡ f t.0 → s.0 ≡ t.0) → (f s.1 ≡ f t.1 → s.1 ≡ t.1) → (f s.0 ≡ f t.1 → s.0 ≡ t.1) → (f s.1 ≡ f t.0 → s.1 ≡ t.0) → same_edge (renumbered f s) (renumbered f t) ≡ same_edge s t
edge-renumbered f s t p q r u =
    let one = number-test f s.0 t.0 p in
    let two = number-test f s.1 t.1 q in
    let three = number-test f s.0 t.1 r in
    let four = number-test f s.1 t.0 u in
    rw (one, two, three, four) refl

-- a number that is among the numbers of points is that of one of them
among-renumbered : (f : ℕ → ℕ) (n : ℕ) (xs : List ℕ) → is_among (map f xs) (f n) ≡ true → ((m : ℕ) → is_among xs m ≡ true → f n ≡ f m → n ≡ m) → is_among xs n ≡ true
among-renumbered f n [] h tells = h
among-renumbered f n (x ∷ xs) h tells = go (nat_eq (f n) (f x)) refl (λ k. among-renumbered f n xs k (λ m there. tells m (later m there)))
  where
    later : (m : ℕ) → is_among xs m ≡ true → is_among (x ∷ xs) m ≡ true
    later m there = grind (arith, nat_tests)

    first : is_among (x ∷ xs) x ≡ true
    first = let self = eq-eqb x x refl in rw self refl

    go : (b : Bool) → nat_eq (f n) (f x) ≡ b → (is_among (map f xs) (f n) ≡ true → is_among xs n ≡ true) → is_among (x ∷ xs) n ≡ true
    go true e behind = let same = eq-eqb n x (tells x first (eqb-true _ _ e)) in rw same refl
    go false e behind = let rest : is_among (map f xs) (f n) ≡ true = rw e at h in later n (behind rest)

-- distinct points have distinct numbers
pub distinct-renumbered : (f : ℕ → ℕ) (xs : List ℕ) → is_distinct xs ≡ true → ((n m : ℕ) → is_among xs n ≡ true → is_among xs m ≡ true → f n ≡ f m → n ≡ m) → is_distinct (map f xs) ≡ true
distinct-renumbered f [] h tells = refl
distinct-renumbered f (x ∷ xs) h tells =
    let parts = and_parts (not (is_among xs x)) (is_distinct xs) h in
    let first : is_among (x ∷ xs) x ≡ true = let self = eq-eqb x x refl in rw self refl in
    let later : (m : ℕ) → is_among xs m ≡ true → is_among (x ∷ xs) m ≡ true = λ m there. ap (λ b. nat_eq m x || b) there ∙ or-true (nat_eq m x) in
    let none : is_among (map f xs) (f x) ≡ false = false_from_ne_true _ (λ there. let own = among-renumbered f x xs there (λ m k. tells x m first (later m k)) in absurd (cc)) in
    let rest = distinct-renumbered f xs parts.1 (λ n m k l. tells n m (later n k) (later m l)) in
    rw (none, rest) refl
  where
    or-true : (b : Bool) → (b || true) ≡ true
    or-true true = refl
    or-true false = refl

pair-same : {a a' b b' : ℕ} → a ≡ a' → b ≡ b' → ◌≡◌ {A = ℕ × ℕ} (a, b) (a', b')
pair-same p q = cc

-- a side with the numbers of a part is that of a side
pub side-renumbered : (f : ℕ → ℕ) (s : ℕ × ℕ) (sides : List (ℕ × ℕ)) → list_any (same_side s) (map (renumbered f) sides) ≡ true → (u : ℕ × ℕ) × (list_any (same_side u) sides ≡ true) × (renumbered f u ≡ s)
side-renumbered f s [] h = absurd (cc)
side-renumbered f s (t ∷ sides) h = go (same_side s (renumbered f t)) refl (λ k. side-renumbered f s sides k)
  where
    go : (b : Bool) → same_side s (renumbered f t) ≡ b → (list_any (same_side s) (map (renumbered f) sides) ≡ true → (u : ℕ × ℕ) × (list_any (same_side u) sides ≡ true) × (renumbered f u ≡ s)) → (u : ℕ × ℕ) × (list_any (same_side u) (t ∷ sides) ≡ true) × (renumbered f u ≡ s)
    go true e behind =
        let parts = and_parts (nat_eq s.0 (f t.0)) (nat_eq s.1 (f t.1)) e in
        let one = eqb-true _ _ parts.0 in
        let two = eqb-true _ _ parts.1 in
        let self = same_side-refl t in
        (t, rw self refl, pair-same (sym one) (sym two))
    go false e behind =
        let rest : list_any (same_side s) (map (renumbered f) sides) ≡ true = rw e at h in
        let found = behind rest in
        (found.0, grind (arith, nat_tests, found.1), found.2)

module _ (points : ℕ) (polygons : List Polygon) (over : is_over points polygons ≡ true) (simple : list_all is_simple polygons ≡ true) (p : Part) (is : IsPart points polygons p) where
  abbrev pub quads : List Polygon
  quads = part_polygons points polygons p

  abbrev pub place : ℕ → ℕ × ℕ
  place i = get_or p.places i (0, 0)

  pub quads-count : length quads ≡ length p.places
  quads-count = length-map p.places (λ x. map p.number (whole_quad points polygons x))

  -- the child face of a place
  pub quad-at-place : (i : ℕ) → i < length p.places → polygon_at quads i ≡ map p.number (whole_quad points polygons (place i))
  quad-at-place i h = get_or-map (λ x. map p.number (whole_quad points polygons x)) p.places i (0, 0) [] h

  whole-at : (i : ℕ) → i < length p.places → polygon_at (child_polygons points polygons) (place_number polygons (place i)) ≡ whole_quad points polygons (place i)
  whole-at i h = child-quad points polygons (place i).0 (place i).1 (face-below polygons (place i).0 (place i).1 (is.within i h)) (is.within i h)

  -- a part has no more places than the level has corners
  place-few : (i : ℕ) → i < length p.places → i ≤ place_number polygons (place i)
  place-few zero h = omega arith
  place-few (suc i) h = let before = place-few i (omega (arith, h)) in let more = is.ascend i (suc i) (omega arith) h in omega (arith, before, more)

  pub place-below : (i : ℕ) → i < length p.places → i < sum_by length polygons
  place-below i h = omega (arith, place-few i h, first-below polygons (place i).0 (place i).1 (is.within i h))

  quad-simple : (i : ℕ) → i < length p.places → is_simple (map p.number (whole_quad points polygons (place i))) ≡ true
  quad-simple i h =
      let quad = whole_quad points polygons (place i) in
      let kids = child_polygons points polygons in
      let below : place_number polygons (place i) < length kids = omega (arith, child_polygons-length points polygons, first-below polygons (place i).0 (place i).1 (is.within i h)) in
      let whole : is_simple quad ≡ true = ap is_simple (sym (whole-at i h)) ∙ all-at is_simple kids (place_number polygons (place i)) [] below (child-simple points polygons kids (all-child points polygons over simple)) in
      let parts = and_parts (nat_le 3 (length quad)) (is_distinct quad) whole in
      distinct-renumbered p.number quad parts.1 (λ n m k l. is.apart n m (is.corners i n h k) (is.corners i m h l))

  pub quads-simple : list_all is_simple quads ≡ true
  quads-simple = list_all-from_AllPass is_simple quads (λ i d h.
      let inside : i < length p.places = omega (arith, h, quads-count) in
      ap is_simple (get_or-map (λ x. map p.number (whole_quad points polygons x)) p.places i (0, 0) d inside) ∙ quad-simple i inside)

  -- a side of the part is that of a side of the whole next level
  side-of-place : (i : ℕ) (s : ℕ × ℕ) → i < length p.places → has_side s (polygon_at quads i) ≡ true → (u : ℕ × ℕ) × (has_side u (whole_quad points polygons (place i)) ≡ true) × (renumbered p.number u ≡ s)
  side-of-place i s h has =
      let here : has_side s (map p.number (whole_quad points polygons (place i))) ≡ true = ap (has_side s) (sym (quad-at-place i h)) ∙ has in
      side-renumbered p.number s (sides_of (whole_quad points polygons (place i))) here

  module _ (distinct : has_distinct_sides (all_sides polygons) ≡ true) where
    -- no two places have one side
    side-owner : (i k : ℕ) (s : ℕ × ℕ) → i < k → k < length p.places → has_side s (polygon_at quads i) ≡ true → has_side s (polygon_at quads k) ≡ true → ⊥
    side-owner i k s less h first second =
        let near : i < length p.places = omega (arith, less, h) in
        let kids = child_polygons points polygons in
        let u = side-of-place i s near first in
        let w = side-of-place k s h second in
        let numbers : renumbered p.number u.0 ≡ renumbered p.number w.0 = u.2 ∙ sym w.2 in
        let quad = whole_quad points polygons (place i) in
        let other = whole_quad points polygons (place k) in
        let starts : u.0.0 ≡ w.0.0 = is.apart u.0.0 w.0.0 (is.corners i u.0.0 near (side-start quad u.0 u.1)) (is.corners k w.0.0 h (side-start other w.0 w.1)) (ap (λ (x : ℕ × ℕ). x.0) numbers) in
        let ends : u.0.1 ≡ w.0.1 = is.apart u.0.1 w.0.1 (is.corners i u.0.1 near (side-end quad u.0 u.1)) (is.corners k w.0.1 h (side-end other w.0 w.1)) (ap (λ (x : ℕ × ℕ). x.1) numbers) in
        let pair : u.0 ≡ w.0 = pair-same starts ends in
        let here : has_side u.0 (polygon_at kids (place_number polygons (place i))) ≡ true = ap (has_side u.0) (whole-at i near) ∙ u.1 in
        let there : has_side u.0 (polygon_at kids (place_number polygons (place k))) ≡ true = ap (has_side u.0) (whole-at k h) ∙ ap (λ (x : ℕ × ℕ). has_side x other) pair ∙ w.1 in
        let same = owner-unique kids u.0 (place_number polygons (place i)) (place_number polygons (place k)) (child-times points polygons over simple distinct u.0) here there in
        omega (arith, same, is.ascend i k less h)

    -- a child face has no side of one before it
    pub fresh-side : (k : ℕ) (s : ℕ × ℕ) → k < length p.places → has_side s (polygon_at quads k) ≡ true → list_any (same_side s) (all_sides (take k quads)) ≡ false
    fresh-side k s h has = false_from_ne_true _ (λ there.
        let found = any-place (same_side s) (take k quads) there in
        let below : found.0 < k = omega (arith, found.1, length-take-le k quads (omega (arith, h, quads-count))) in
        let here : has_side s (polygon_at quads found.0) ≡ true = ap (has_side s) (sym (get_or-take k quads found.0 [] below)) ∙ found.2 in
        side-owner found.0 k s below h here has)

    -- the first child faces have each side at most once
    side-once : (k : ℕ) (s : ℕ × ℕ) → k ≤ length p.places → count_by (same_side s) (all_sides (take k quads)) ≤ 1
    side-once zero s h = omega arith
    side-once (suc k) s h =
        let inside : k < length quads = omega (arith, h, quads-count) in
        let q = polygon_at quads k in
        let next : suc k ≡ k + 1 = omega arith in
        let more : all_sides (take (suc k) quads) ≡ all_sides (take k quads) ++ all_sides (q ∷ []) = ap (λ i. all_sides (take i quads)) next ∙ ap all_sides (take_more quads k [] inside) ∙ flat_map-append sides_of (take k quads) (q ∷ []) in
        let distinct-here = and_parts (nat_le 3 (length q)) (is_distinct q) (all-at is_simple quads k [] inside quads-simple) in
        let one = polygon-side-count q s distinct-here.1 in
        let before = side-once k s (omega (arith, h)) in
        let both = count-append (same_side s) (all_sides (take k quads)) (all_sides (q ∷ [])) in
        let last = count-append (same_side s) (sides_of q) [] in
        let total = ap (count_by (same_side s)) more in
        go (list_any (same_side s) (sides_of q)) refl one before both last total
      where
        go : (b : Bool) → list_any (same_side s) (sides_of (polygon_at quads k)) ≡ b → count_by (same_side s) (sides_of (polygon_at quads k)) ≤ 1 → count_by (same_side s) (all_sides (take k quads)) ≤ 1
            → count_by (same_side s) (all_sides (take k quads) ++ all_sides (polygon_at quads k ∷ [])) ≡ count_by (same_side s) (all_sides (take k quads)) + count_by (same_side s) (all_sides (polygon_at quads k ∷ []))
            → count_by (same_side s) (sides_of (polygon_at quads k) ++ []) ≡ count_by (same_side s) (sides_of (polygon_at quads k)) + count_by (same_side s) []
            → count_by (same_side s) (all_sides (take (suc k) quads)) ≡ count_by (same_side s) (all_sides (take k quads) ++ all_sides (polygon_at quads k ∷ []))
            → count_by (same_side s) (all_sides (take (suc k) quads)) ≤ 1
        go true e one before both last total =
            let none = count-none (same_side s) (all_sides (take k quads)) (fresh-side k s (omega (arith, h)) e) in
            omega (arith, one, both, last, total, none)
        go false e one before both last total =
            let none = count-none (same_side s) (sides_of (polygon_at quads k)) e in
            omega (arith, before, both, last, total, none)

    pub first-distinct : (k : ℕ) → k ≤ length p.places → has_distinct_sides (all_sides (take k quads)) ≡ true
    first-distinct k h = distinct-from_count (all_sides (take k quads)) (λ s. side-once k s h)
