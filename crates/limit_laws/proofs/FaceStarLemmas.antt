-- Sums over the faces, the edges and the corners at a point of a level of quads.
use Rattle.std.proofs.Common.{◌≡◌, ℕ, zero, suc, ◌+◌, ◌*◌, ◌<◌, ◌≤◌, Bool, true, false, ◌&&◌, nat_eq, nat_lt, nat_le, ℤ, pos, ◌+ℤ◌, ◌*ℤ◌, List, [], ◌∷◌, length, get_or, arith, refl, ap, sym, ◌∙◌}
use Rattle.std.specs.List.{filter, list_all, count_by, enumerate_from}
use Rattle.std.proofs.lemmas.Bool.Decides.{nat_tests}
use Rattle.std.proofs.lemmas.Bool.{and_parts, eqb-true, cond_both}
use Rattle.std.proofs.lemmas.Int.{ints}
use Rattle.std.proofs.Math.IntN.{+ℤ_idl}
use Rattle.subdiv_model.specs.Lists.{places_from}
use Rattle.subdiv_model.specs.Polygons.{Polygon, same_edge, sides_of, has_corner, has_edge, is_distinct, polygon_at}
use Rattle.subdiv_model.specs.Edges.{all_sides, edges_of, edges_of_point, faces_of_point, faces_of_edge, has_end}
use Rattle.subdiv_model.specs.Manifold.{is_simple}
use Rattle.subdiv_model.specs.Mask.{other_end}
use Rattle.subdiv_model.specs.Limit.{opposite_corner}
use Rattle.number_laws.proofs.CountLemmas.{one_if, any-count, count-agree}
use Rattle.number_laws.proofs.WholeNumberLemmas.{pos-swap, pos-assoc}
use Rattle.mesh_laws.proofs.SideLemmas.{same_edge-sym, polygon-edge-count}
use Rattle.mesh_laws.proofs.EdgeLemmas.{faces-count}
use Rattle.mask_laws.proofs.SumLemmas.{sum_ℤ}
use Rattle.limit_laws.proofs.SumExchangeLemmas.{number_if, number-yes, number-no, number-alike, sum-same, sum-agree, sum-plus, sum-times, sum-flat, sum-kept, sum-count, sum-exchange, is_once, once-count}

-- Items by their numbers.

-- the sum over the places of what passes is that over all items of what passes
pub sum-places : {X : Type 0} (h : ℕ → X → ℤ) (at : ℕ → X) (d : X) (test : X → Bool) (place : ℕ) (xs : List X)
    → ((i : ℕ) → i < length xs → at (place + i) ≡ get_or xs i d)
    → sum_ℤ (λ k. h k (at k)) (places_from place test xs) ≡ sum_ℤ (λ item. number_if (test item.1) (h item.0 item.1)) (enumerate_from place xs)
sum-places h at d test place [] is = refl
sum-places h at d test place (x ∷ xs) is =
    let none : place ≡ place + 0 = omega arith in
    let own : at place ≡ x = ap at none ∙ is 0 (omega arith) in
    let behind = sum-places h at d test (place + 1) xs (λ i below.
    let next : place + 1 + i ≡ place + suc i = omega arith in ap at next ∙ is (suc i) (omega arith)) in
    let rest = sum_ℤ (λ item. number_if (test item.1) (h item.0 item.1)) (enumerate_from (place + 1) xs) in
    cond_both (test x) (place ∷ places_from (place + 1) test xs) (places_from (place + 1) test xs)
    (λ l. sum_ℤ (λ k. h k (at k)) l ≡ number_if (test x) (h place x) +ℤ rest)
    (λ yes. ap (λ y. h place y +ℤ sum_ℤ (λ k. h k (at k)) (places_from (place + 1) test xs)) own
    ∙ ap (λ n. h place x +ℤ n) behind ∙ ap (λ n. n +ℤ rest) (sym (number-yes (test x) (h place x) yes)))
    (λ no. behind ∙ sym (+ℤ_idl rest) ∙ ap (λ n. n +ℤ rest) (sym (number-no (test x) (h place x) no)))

-- where the number of an item does not matter
pub sum-unnumbered : {X : Type 0} (h : X → ℤ) (place : ℕ) (xs : List X) → sum_ℤ (λ item. h item.1) (enumerate_from place xs) ≡ sum_ℤ h xs
sum-unnumbered h place [] = refl
sum-unnumbered h place (x ∷ xs) = ap (λ n. h x +ℤ n) (sum-unnumbered h (place + 1) xs)

pub all-numbered : {X : Type 0} (test : X → Bool) (place : ℕ) (xs : List X) → list_all (λ item. test item.1) (enumerate_from place xs) ≡ list_all test xs
all-numbered test place [] = refl
all-numbered test place (x ∷ xs) = ap (λ b. test x && b) (all-numbered test (place + 1) xs)

-- a sum over items is a sum over their numbers
pub sum-read : {X : Type 0} (d : X) (xs : List X) (h : ℕ → X → ℤ) (test : X → Bool)
    → sum_ℤ (λ k. h k (get_or xs k d)) (places_from 0 test xs) ≡ sum_ℤ (λ item. number_if (test item.1) (h item.0 item.1)) (enumerate_from 0 xs)
sum-read d xs h test = sum-places h (λ k. get_or xs k d) d test 0 xs (λ i below. let same : 0 + i ≡ i = omega arith in ap (λ k. get_or xs k d) same)

-- Edges by their sides.

-- a sum over sides is a sum over the edges, each as often as it has sides
pub sum-by-edges : (h : ℕ × ℕ → ℤ) (sides edges : List (ℕ × ℕ)) → ((s e : ℕ × ℕ) → same_edge s e ≡ true → h s ≡ h e)
    → list_all (λ s. is_once (same_edge s) edges) sides ≡ true
    → sum_ℤ h sides ≡ sum_ℤ (λ e. pos (count_by (same_edge e) sides) *ℤ h e) edges
sum-by-edges h sides edges alike named =
    sum-agree (λ s. is_once (same_edge s) edges) h (λ s. sum_ℤ (λ e. number_if (same_edge s e) (h s)) edges) (λ s once. sym (once-count (same_edge s) (h s) edges once)) sides named
    ∙ sum-exchange (λ s e. number_if (same_edge s e) (h s)) sides edges
    ∙ sum-same (λ e. sum_ℤ (λ s. number_if (same_edge s e) (h s)) sides) (λ e. pos (count_by (same_edge e) sides) *ℤ h e) by-edge edges
  where
    by-edge : (e : ℕ × ℕ) → sum_ℤ (λ s. number_if (same_edge s e) (h s)) sides ≡ pos (count_by (same_edge e) sides) *ℤ h e
    by-edge e =
        sum-same (λ s. number_if (same_edge s e) (h s)) (λ s. number_if (same_edge s e) (h e)) (λ s. number-alike (same_edge s e) (h s) (h e) (alike s e)) sides
        ∙ sum-count (λ s. same_edge s e) (h e) sides
        ∙ ap (λ n. pos n *ℤ h e) (count-agree (λ s. same_edge s e) (same_edge e) (λ s. same_edge-sym s e) sides)

-- Quads.

-- a quad with four corners and four sides that are edges of the list
abbrev pub is_plain_quad : List (ℕ × ℕ) → Polygon → Bool
is_plain_quad edges polygon = nat_eq (length polygon) 4 && (is_simple polygon && list_all (λ s. is_once (same_edge s) edges) (sides_of polygon))

-- the number of the other end, at an edge that ends at the point
abbrev pub end_number : ℕ → (ℕ → ℤ) → ℕ × ℕ → ℤ
end_number v g s = number_if (has_end v s) (g (other_end v s))

pub end_number-alike : (v : ℕ) (g : ℕ → ℤ) (s e : ℕ × ℕ) → same_edge s e ≡ true → end_number v g s ≡ end_number v g e
end_number-alike v g s e h =
    let ends : has_end v s ≡ has_end v e = grind (arith, nat_tests) in
    ap (λ b. number_if b (g (other_end v s))) ends
    ∙ number-alike (has_end v e) (g (other_end v s)) (g (other_end v e)) (λ at. ap g (others at))
  where
    others : has_end v e ≡ true → other_end v s ≡ other_end v e
    others at = grind (arith, nat_tests)

module _ (v a b c d : ℕ) (distinct : is_distinct (a ∷ b ∷ c ∷ d ∷ []) ≡ true) where
  abbrev quad : Polygon
  quad = a ∷ b ∷ c ∷ d ∷ []

  -- two sides of a quad end at each of its corners
  quad-ends : count_by (has_end v) (sides_of quad) ≡ 2 * one_if (has_corner v quad)
  quad-ends = grind (arith, nat_tests)

  -- one side starts at the vertex if it is a corner
  quad-starts : count_by (λ s. nat_eq v s.0) (sides_of quad) ≡ one_if (has_corner v quad)
  quad-starts = grind (arith, nat_tests)

  -- the numbers at its corners: at the point, at the other ends of its two sides there, and at the opposite corner
  quad-sum : (g : ℕ → ℤ) → number_if (has_corner v quad) (sum_ℤ g quad)
      ≡ (number_if (has_corner v quad) (g v) +ℤ sum_ℤ (end_number v g) (sides_of quad)) +ℤ number_if (has_corner v quad) (g (opposite_corner v quad))
  quad-sum g = here (nat_eq v a) (nat_eq v b) (nat_eq v c) (nat_eq v d) refl refl refl refl
    where
      here : (p q r s : Bool) → nat_eq v a ≡ p → nat_eq v b ≡ q → nat_eq v c ≡ r → nat_eq v d ≡ s
          → number_if (has_corner v quad) (sum_ℤ g quad)
          ≡ (number_if (has_corner v quad) (g v) +ℤ sum_ℤ (end_number v g) (sides_of quad)) +ℤ number_if (has_corner v quad) (g (opposite_corner v quad))
      here true false false false h k m n = let same : g v ≡ g a = ap g (eqb-true v a h) in rw (h, k, m, n) (omega (arith, ints, same))
      here false true false false h k m n = let same : g v ≡ g b = ap g (eqb-true v b k) in rw (h, k, m, n) (omega (arith, ints, same))
      here false false true false h k m n = let same : g v ≡ g c = ap g (eqb-true v c m) in rw (h, k, m, n) (omega (arith, ints, same))
      here false false false true h k m n = let same : g v ≡ g d = ap g (eqb-true v d n) in rw (h, k, m, n) (omega (arith, ints, same))
      here false false false false h k m n = rw (h, k, m, n) (omega (arith, ints))
      here true true r s h k m n = absurd (grind (arith, nat_tests))
      here true false true s h k m n = absurd (grind (arith, nat_tests))
      here true false false true h k m n = absurd (grind (arith, nat_tests))
      here false true true s h k m n = absurd (grind (arith, nat_tests))
      here false true false true h k m n = absurd (grind (arith, nat_tests))
      here false false true true h k m n = absurd (grind (arith, nat_tests))

-- Facts of plain quads.
module _ (v : ℕ) (edges : List (ℕ × ℕ)) where
  -- the quad has four distinct corners
  distinct-quad : (polygon : Polygon) → is_plain_quad edges polygon ≡ true → is_distinct polygon ≡ true
  distinct-quad polygon h =
      let parts = and_parts (nat_eq (length polygon) 4) (is_simple polygon && list_all (λ s. is_once (same_edge s) edges) (sides_of polygon)) h in
      let more = and_parts (is_simple polygon) (list_all (λ s. is_once (same_edge s) edges) (sides_of polygon)) parts.1 in
      (and_parts (nat_le 3 (length polygon)) (is_distinct polygon) more.0).1

  simple-quad : (polygon : Polygon) → is_plain_quad edges polygon ≡ true → is_simple polygon ≡ true
  simple-quad polygon h =
      let parts = and_parts (nat_eq (length polygon) 4) (is_simple polygon && list_all (λ s. is_once (same_edge s) edges) (sides_of polygon)) h in
      (and_parts (is_simple polygon) (list_all (λ s. is_once (same_edge s) edges) (sides_of polygon)) parts.1).0

  listed-quad : (polygon : Polygon) → is_plain_quad edges polygon ≡ true → list_all (λ s. is_once (same_edge s) edges) (sides_of polygon) ≡ true
  listed-quad polygon h =
      let parts = and_parts (nat_eq (length polygon) 4) (is_simple polygon && list_all (λ s. is_once (same_edge s) edges) (sides_of polygon)) h in
      (and_parts (is_simple polygon) (list_all (λ s. is_once (same_edge s) edges) (sides_of polygon)) parts.1).1

  length-quad : (polygon : Polygon) → is_plain_quad edges polygon ≡ true → length polygon ≡ 4
  length-quad polygon h =
      let parts = and_parts (nat_eq (length polygon) 4) (is_simple polygon && list_all (λ s. is_once (same_edge s) edges) (sides_of polygon)) h in
      eqb-true (length polygon) 4 parts.0

  plain-ends : (polygon : Polygon) → is_plain_quad edges polygon ≡ true → count_by (has_end v) (sides_of polygon) ≡ 2 * one_if (has_corner v polygon)
  plain-ends (a ∷ b ∷ c ∷ d ∷ []) h = quad-ends v a b c d (distinct-quad (a ∷ b ∷ c ∷ d ∷ []) h)
  plain-ends [] h = absurd (cc)
  plain-ends (a ∷ []) h = absurd (cc)
  plain-ends (a ∷ b ∷ []) h = absurd (cc)
  plain-ends (a ∷ b ∷ c ∷ []) h = absurd (cc)
  plain-ends (a ∷ b ∷ c ∷ d ∷ e ∷ rest) h = absurd (omega (arith, length-quad (a ∷ b ∷ c ∷ d ∷ e ∷ rest) h))

  pub plain-starts : (polygon : Polygon) → is_plain_quad edges polygon ≡ true → count_by (λ s. nat_eq v s.0) (sides_of polygon) ≡ one_if (has_corner v polygon)
  plain-starts (a ∷ b ∷ c ∷ d ∷ []) h = quad-starts v a b c d (distinct-quad (a ∷ b ∷ c ∷ d ∷ []) h)
  plain-starts [] h = absurd (cc)
  plain-starts (a ∷ []) h = absurd (cc)
  plain-starts (a ∷ b ∷ []) h = absurd (cc)
  plain-starts (a ∷ b ∷ c ∷ []) h = absurd (cc)
  plain-starts (a ∷ b ∷ c ∷ d ∷ e ∷ rest) h = absurd (omega (arith, length-quad (a ∷ b ∷ c ∷ d ∷ e ∷ rest) h))

  plain-sum : (g : ℕ → ℤ) (polygon : Polygon) → is_plain_quad edges polygon ≡ true → number_if (has_corner v polygon) (sum_ℤ g polygon)
      ≡ (number_if (has_corner v polygon) (g v) +ℤ sum_ℤ (end_number v g) (sides_of polygon)) +ℤ number_if (has_corner v polygon) (g (opposite_corner v polygon))
  plain-sum g (a ∷ b ∷ c ∷ d ∷ []) h = quad-sum v a b c d (distinct-quad (a ∷ b ∷ c ∷ d ∷ []) h) g
  plain-sum g [] h = absurd (cc)
  plain-sum g (a ∷ []) h = absurd (cc)
  plain-sum g (a ∷ b ∷ []) h = absurd (cc)
  plain-sum g (a ∷ b ∷ c ∷ []) h = absurd (cc)
  plain-sum g (a ∷ b ∷ c ∷ d ∷ e ∷ rest) h = absurd (omega (arith, length-quad (a ∷ b ∷ c ∷ d ∷ e ∷ rest) h))

  -- a quad has an edge once or never
  edge-once : (e : ℕ × ℕ) (polygon : Polygon) → is_plain_quad edges polygon ≡ true → count_by (same_edge e) (sides_of polygon) ≡ one_if (has_edge e polygon)
  edge-once e polygon h =
      at_most (count_by (same_edge e) (sides_of polygon)) (polygon-edge-count polygon e (simple-quad polygon h))
      ∙ ap one_if (sym (any-count (same_edge e) (sides_of polygon)))
    where
      at_most : (n : ℕ) → n ≤ 1 → n ≡ one_if (nat_lt 0 n)
      at_most zero k = refl
      at_most (suc n) k = grind (arith, nat_tests)

  -- the edges that a quad has at the point are two where it has the point, each with one number
  plain-edges : (n : ℤ) (polygon : Polygon) → is_plain_quad edges polygon ≡ true
      → sum_ℤ (λ e. number_if (has_edge e polygon) n) (filter (has_end v) edges) ≡ pos 2 *ℤ number_if (has_corner v polygon) n
  plain-edges n polygon h =
      let sides = sides_of polygon in
      sum-kept (has_end v) (λ e. number_if (has_edge e polygon) n) edges
      ∙ sum-same (λ e. number_if (has_end v e) (number_if (has_edge e polygon) n)) (λ e. pos (count_by (same_edge e) sides) *ℤ number_if (has_end v e) n)
      (λ e. pos-swap (one_if (has_end v e)) (one_if (has_edge e polygon)) n ∙ ap (λ k. pos k *ℤ number_if (has_end v e) n) (sym (edge-once e polygon h))) edges
      ∙ sym (sum-by-edges (λ s. number_if (has_end v s) n) sides edges (λ s e same. ap (λ b. number_if b n) (alike s e same)) (listed-quad polygon h))
      ∙ sum-count (has_end v) n sides
      ∙ ap (λ k. pos k *ℤ n) (plain-ends polygon h)
      ∙ sym (pos-assoc 2 (one_if (has_corner v polygon)) n)
    where
      alike : (s e : ℕ × ℕ) → same_edge s e ≡ true → has_end v s ≡ has_end v e
      alike s e same = grind (arith, nat_tests)

-- The faces and the edges at a point, where all polygons are plain quads.

module _ (polygons : List Polygon) (v : ℕ) (plain : list_all (is_plain_quad (edges_of polygons)) polygons ≡ true) where
  abbrev numbered : List (ℕ × Polygon)
  numbered = enumerate_from 0 polygons

  abbrev is_plain_face : ℕ × Polygon → Bool
  is_plain_face face = is_plain_quad (edges_of polygons) face.1

  plain-faces : list_all is_plain_face numbered ≡ true
  plain-faces = all-numbered (is_plain_quad (edges_of polygons)) 0 polygons ∙ plain

  -- each face at the point is counted at two of its edges
  pub faces-by-edges : (g : ℕ → ℤ)
      → sum_ℤ (λ e. sum_ℤ g (faces_of_edge polygons e)) (edges_of_point polygons v) ≡ pos 2 *ℤ sum_ℤ g (faces_of_point polygons v)
  faces-by-edges g =
      let at_v = edges_of_point polygons v in
      sum-same (λ e. sum_ℤ g (faces_of_edge polygons e)) (λ e. sum_ℤ (λ face. number_if (has_edge e face.1) (g face.0)) numbered)
      (λ e. sum-read [] polygons (λ f p. g f) (has_edge e)) at_v
      ∙ sum-exchange (λ e face. number_if (has_edge e face.1) (g face.0)) at_v numbered
      ∙ sum-agree is_plain_face (λ face. sum_ℤ (λ e. number_if (has_edge e face.1) (g face.0)) at_v) (λ face. pos 2 *ℤ number_if (has_corner v face.1) (g face.0))
      (λ face h. plain-edges v (edges_of polygons) (g face.0) face.1 h) numbered plain-faces
      ∙ sum-times 2 (λ face. number_if (has_corner v face.1) (g face.0)) numbered
      ∙ ap (λ n. pos 2 *ℤ n) (sym (sum-read [] polygons (λ f p. g f) (has_corner v)))

  -- the other ends of the sides at the point, each edge as often as it has faces
  ends-by-sides : (g : ℕ → ℤ) → list_all is_simple polygons ≡ true → list_all (λ s. is_once (same_edge s) (edges_of polygons)) (all_sides polygons) ≡ true
      → list_all (λ e. nat_eq (length (faces_of_edge polygons e)) 2) (edges_of_point polygons v) ≡ true
      → sum_ℤ (end_number v g) (all_sides polygons) ≡ pos 2 *ℤ sum_ℤ (λ e. g (other_end v e)) (edges_of_point polygons v)
  ends-by-sides g simple named two =
      let sides = all_sides polygons in
      let edges = edges_of polygons in
      let often = λ (e : ℕ × ℕ). pos (count_by (same_edge e) sides) *ℤ g (other_end v e) in
      sum-by-edges (end_number v g) sides edges (λ s e h. end_number-alike v g s e h) named
      ∙ sum-same (λ e. pos (count_by (same_edge e) sides) *ℤ end_number v g e) (λ e. number_if (has_end v e) (often e))
      (λ e. pos-swap (count_by (same_edge e) sides) (one_if (has_end v e)) (g (other_end v e))) edges
      ∙ sym (sum-kept (has_end v) often edges)
      ∙ sum-agree (λ e. nat_eq (length (faces_of_edge polygons e)) 2) often (λ e. pos 2 *ℤ g (other_end v e))
      (λ e h. ap (λ n. pos n *ℤ g (other_end v e)) (sym (faces-count e 0 polygons simple) ∙ eqb-true (length (faces_of_edge polygons e)) 2 h)) (edges_of_point polygons v) two
      ∙ sum-times 2 (λ e. g (other_end v e)) (edges_of_point polygons v)

  -- the corners of the faces at the point: the point at each, each other end twice, and the opposite corners
  pub corners-by-faces : (g : ℕ → ℤ) → list_all is_simple polygons ≡ true → list_all (λ s. is_once (same_edge s) (edges_of polygons)) (all_sides polygons) ≡ true
      → list_all (λ e. nat_eq (length (faces_of_edge polygons e)) 2) (edges_of_point polygons v) ≡ true
      → sum_ℤ (λ f. sum_ℤ g (polygon_at polygons f)) (faces_of_point polygons v)
      ≡ (sum_ℤ (λ f. g v) (faces_of_point polygons v) +ℤ pos 2 *ℤ sum_ℤ (λ e. g (other_end v e)) (edges_of_point polygons v))
      +ℤ sum_ℤ (λ f. g (opposite_corner v (polygon_at polygons f))) (faces_of_point polygons v)
  corners-by-faces g simple named two =
      let own = λ (face : ℕ × Polygon). number_if (has_corner v face.1) (g v) in
      let beside = λ (face : ℕ × Polygon). sum_ℤ (end_number v g) (sides_of face.1) in
      let across = λ (face : ℕ × Polygon). number_if (has_corner v face.1) (g (opposite_corner v face.1)) in
      let first = sym (sum-read [] polygons (λ f p. g v) (has_corner v)) in
      let second : sum_ℤ beside numbered ≡ pos 2 *ℤ sum_ℤ (λ e. g (other_end v e)) (edges_of_point polygons v) =
      sum-unnumbered (λ p. sum_ℤ (end_number v g) (sides_of p)) 0 polygons
      ∙ sym (sum-flat (end_number v g) sides_of polygons) ∙ ends-by-sides g simple named two in
      let third = sym (sum-read [] polygons (λ f p. g (opposite_corner v p)) (has_corner v)) in
      sum-read [] polygons (λ f p. sum_ℤ g p) (has_corner v)
      ∙ sum-agree is_plain_face (λ face. number_if (has_corner v face.1) (sum_ℤ g face.1)) (λ face. (own face +ℤ beside face) +ℤ across face)
      (λ face h. plain-sum v (edges_of polygons) g face.1 h) numbered plain-faces
      ∙ sum-plus (λ face. own face +ℤ beside face) across numbered
      ∙ ap (λ n. n +ℤ sum_ℤ across numbered) (sum-plus own beside numbered)
      ∙ ap (λ n. (n +ℤ sum_ℤ beside numbered) +ℤ sum_ℤ across numbered) first
      ∙ ap (λ n. (sum_ℤ (λ f. g v) (faces_of_point polygons v) +ℤ n) +ℤ sum_ℤ across numbered) second
      ∙ ap (λ n. (sum_ℤ (λ f. g v) (faces_of_point polygons v) +ℤ pos 2 *ℤ sum_ℤ (λ e. g (other_end v e)) (edges_of_point polygons v)) +ℤ n) third
