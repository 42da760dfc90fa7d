-- The next corners of the quads at a vertex with as many quads as edges are the other ends of its edges, in some order.
use Rattle.std.proofs.Common.{◌≡◌, ℕ, zero, suc, ◌+◌, ◌%◌, ◌<◌, ◌≤◌, Bool, true, false, not, ◌||◌, nat_eq, List, [], ◌∷◌, ◌++◌, length, map, get_or, arith, refl, ap, sym, subst, ◌∙◌}
use Rattle.std.specs.List.{flat_map}
use Rattle.std.specs.List.Sorted.{IsPermutation}
use Rattle.std.proofs.lemmas.Bool.Decides.{nat_tests}
use Rattle.std.proofs.lemmas.Bool.{and_from, eq-eqb}
use Rattle.std.proofs.lemmas.List.{length-map, get_or_default}
use Rattle.std.proofs.lemmas.List.Sums.{passes_at_first}
use Rattle.std.proofs.lemmas.List.Sorted.{IsPermutation-refl, IsPermutation-sym, IsPermutation-trans, IsPermutation-cons, IsPermutation-map, IsPermutation-append, IsPermutation-middle}
use Rattle.subdiv_model.specs.Polygons.{Polygon, same_edge, has_side, has_corner, is_among, is_distinct, polygon_at}
use Rattle.subdiv_model.specs.Edges.{all_sides, edges_of, edge_number, has_end}
use Rattle.subdiv_model.specs.Mask.{OfPoint, Term, weigh, weigh_points, other_end}
use Rattle.subdiv_model.specs.Limit.{has_quads}
use Rattle.sharpness_laws.proofs.MaskOrderLemmas.{points-permuted}
use Rattle.mesh_laws.proofs.SideLemmas.{distinct-count}
use Rattle.mesh_laws.proofs.EdgeLemmas.{position-within, same-number}
use Rattle.mesh_laws.proofs.FanLemmas.{owner-unique}
use Rattle.mesh_laws.proofs.WalkLemmas.{distinct-le, same-tests}
use Rattle.mesh_laws.proofs.ChildCornerLemmas.{side-named}
use Rattle.mesh_laws.proofs.TurnedLemmas.{among-map, map-distinct}
use Rattle.level_topology.specs.Topology.{Topology, IsTopology, edge_at, edge_after, corner_of, corner_after}
use Rattle.level_topology.proofs.LawLemmas.{edge-joins, edges-all, edges-once, faces-all, faces-each, faces-once}
use Rattle.level_topology.proofs.FanOrderLemmas.{same-permutation}
use Rattle.level_topology.proofs.FanWalkLemmas.{after-side}
use Rattle.mask_rules.specs.Around.{end_of_edge, ends_in, faces_in}
use Rattle.mask_rules.proofs.AroundLemmas.{map-same}
use Rattle.limit_stencils.specs.AtVertex.{face_terms, opposites_in}
use Rattle.limit_stencils.proofs.OrderLemmas.{map-twice}
use Rattle.limit_stencils.proofs.QuadLemmas.{quad-four}

-- distinct numbers of a list of as many distinct numbers are all of them
full-permutation : (xs ys : List ℕ) → is_distinct xs ≡ true → is_distinct ys ≡ true → length xs ≡ length ys
    → ((n : ℕ) → is_among xs n ≡ true → is_among ys n ≡ true) → IsPermutation xs ys
full-permutation xs ys dx dy long within = same-permutation xs ys dx dy (λ n. same-tests _ _ (within n) (λ there. back n there (is_among xs n) refl))
  where
    back : (n : ℕ) → is_among ys n ≡ true → (b : Bool) → is_among xs n ≡ b → is_among xs n ≡ true
    back n there true e = e
    back n there false e =
        let fewer : length (n ∷ xs) ≤ length ys = distinct-le (n ∷ xs) ys (and_from _ _ (ap not e) dx) (λ m h. either m (nat_eq m n) refl h) in
        absurd (omega (arith, fewer, long))
      where
        either : (m : ℕ) (c : Bool) → nat_eq m n ≡ c → (nat_eq m n || is_among xs m) ≡ true → is_among ys m ≡ true
        either m true k h = let same : m ≡ n = grind (arith, nat_tests) in ap (is_among ys) same ∙ there
        either m false k h = within m (sym (ap (λ d. d || is_among xs m) k) ∙ h)

-- two terms of each item, or all first terms before all second ones
pairs-permuted : {X Y : Type 0} (first second : X → Y) (xs : List X)
    → IsPermutation (flat_map (λ x. first x ∷ (second x ∷ [])) xs) (map first xs ++ map second xs)
pairs-permuted first second [] = IsPermutation-refl []
pairs-permuted first second (x ∷ xs) =
    let behind = flat_map (λ y. first y ∷ (second y ∷ [])) xs in
    IsPermutation-cons (first x) (second x ∷ behind) (map first xs ++ second x ∷ map second xs)
    (IsPermutation-trans (second x ∷ behind) (second x ∷ (map first xs ++ map second xs)) (map first xs ++ second x ∷ map second xs)
    (IsPermutation-cons (second x) behind (map first xs ++ map second xs) (pairs-permuted first second xs))
    (IsPermutation-sym _ _ (IsPermutation-middle (map first xs) (second x) (map second xs))))

out-ends : (v w u : ℕ) → same_edge (v, w) (v, u) ≡ true → w ≡ u
out-ends v w u h = grind (arith, nat_tests)

start-ends : (v w : ℕ) (e : ℕ × ℕ) → same_edge (v, w) e ≡ true → has_end v e ≡ true
start-ends v w e h = grind (arith, nat_tests)

end-is : (v w : ℕ) (e : ℕ × ℕ) → same_edge (v, w) e ≡ true → other_end v e ≡ w
end-is v w e h = grind (arith, nat_tests)

after-four : (c : ℕ) → c < 4 → corner_after 4 c ≡ (c + 1) % 4
after-four zero h = refl
after-four (suc zero) h = refl
after-four (suc (suc zero)) h = refl
after-four (suc (suc (suc zero))) h = refl
after-four (suc (suc (suc (suc c)))) h = absurd (omega (arith, h))

module _ (t : Topology) (v : ℕ) (is : IsTopology t) (inside : v < t.level.point_count) where
  abbrev polygons : List Polygon
  polygons = t.level.polygons

  abbrev faces : List ℕ
  faces = faces_in t v

  abbrev items : List ℕ
  items = get_or t.edges_at v []

  face-there : (f : ℕ) → is_among faces f ≡ true → has_corner v (polygon_at polygons f) ≡ true
  face-there f h = sym (faces-all t v f is inside) ∙ h

  -- the edge after a face is that of no other face
  after-apart : (f g : ℕ) → has_corner v (polygon_at polygons f) ≡ true → has_corner v (polygon_at polygons g) ≡ true
      → edge_after polygons v f ≡ edge_after polygons v g → f ≡ g
  after-apart f g at_f at_g h =
      let one = after-side polygons is.simple is.sides_once v f at_f in
      let two = after-side polygons is.simple is.sides_once v g at_g in
      let same = sym (same-number (v, one.0) (v, two.0) (edges_of polygons) (side-named polygons f (v, one.0) one.1)) ∙ eq-eqb _ _ (sym one.2 ∙ h ∙ two.2) in
      owner-unique polygons (v, one.0) f g (distinct-count (v, one.0) (all_sides polygons) is.sides_once) one.1
      (subst (λ n. has_side (v, n) (polygon_at polygons g) ≡ true) (sym (out-ends v one.0 two.0 same)) two.1)

  -- the edge after a face is an edge at the vertex
  after-among : (f : ℕ) → has_corner v (polygon_at polygons f) ≡ true → is_among items (edge_after polygons v f) ≡ true
  after-among f at =
      let out = after-side polygons is.simple is.sides_once v f at in
      let within = position-within (v, out.0) (edges_of polygons) (side-named polygons f (v, out.0) out.1) in
      let joins = passes_at_first (same_edge (v, out.0)) (edges_of polygons) (0, 0) within in
      subst (λ n. is_among items n ≡ true) (sym out.2)
      (edges-all t v (edge_number polygons (v, out.0)) is inside within (start-ends v out.0 (edge_at polygons (edge_number polygons (v, out.0))) joins))

  afters-permuted : length faces ≡ length items → IsPermutation (map (edge_after polygons v) faces) items
  afters-permuted round =
      full-permutation (map (edge_after polygons v) faces) items
      (map-distinct (edge_after polygons v) faces (λ f g at_f at_g h. after-apart f g (face-there f at_f) (face-there g at_g) h) (faces-once t v is inside))
      (edges-once t v is inside) (length-map faces (edge_after polygons v) ∙ round)
      (λ n there.
      let found = among-map (edge_after polygons v) faces n there in
      subst (λ e. is_among items e ≡ true) found.2 (after-among found.0 (face-there found.0 found.1)))

  module _ (quads : has_quads t.level ≡ true) where
    abbrev next : ℕ → ℕ
    next f = get_or (polygon_at polygons f) ((corner_of polygons v f + 1) % 4) 0

    abbrev opposite : ℕ → ℕ
    opposite f = get_or (polygon_at polygons f) ((corner_of polygons v f + 2) % 4) 0

    -- the next corner of a quad is the other end of the edge after it
    next-is : (i : ℕ) → i < length faces → next (get_or faces i 0) ≡ end_of_edge polygons v (edge_after polygons v (get_or faces i 0))
    next-is i there =
        let f = get_or faces i 0 in
        let quad = polygon_at polygons f in
        let c = corner_of polygons v f in
        let face = faces-each t v i is inside there in
        let four : length quad ≡ 4 = quad-four t.level f face.exists quads in
        let place : corner_after (length quad) c ≡ (c + 1) % 4 = ap (λ size. corner_after size c) four ∙ after-four c (omega (arith, face.within, four)) in
        let w = get_or quad (corner_after (length quad) c) 0 in
        let edge = edge_at polygons (edge_after polygons v f) in
        let joins : same_edge (v, w) edge ≡ true = subst (λ n. same_edge (n, w) edge ≡ true) face.there (edge-joins polygons f c face.within) in
        sym (end-is v w edge joins ∙ ap (λ n. get_or quad n 0) place)

    nexts-permuted : length faces ≡ length items → IsPermutation (map next faces) (ends_in t v)
    nexts-permuted round =
        let end = end_of_edge polygons v in
        subst (λ l. IsPermutation l (ends_in t v))
        (map-twice end (edge_after polygons v) faces ∙ sym (map-same next (λ f. end (edge_after polygons v f)) 0 faces next-is))
        (IsPermutation-map end (map (edge_after polygons v) faces) items (afters-permuted round))

    opposites-same : map opposite faces ≡ opposites_in t v
    opposites-same = map-same opposite _ 0 faces (λ i there.
        let f = get_or faces i 0 in
        let four : length (polygon_at polygons f) ≡ 4 = quad-four t.level f (faces-each t v i is inside there).exists quads in
        get_or_default (polygon_at polygons f) ((corner_of polygons v f + 2) % 4) 0 v (omega (arith, four)))

    -- the terms of the quads are those of the neighbours and of the opposite corners
    pub quads-permuted : length faces ≡ length items
        → IsPermutation (flat_map (face_terms polygons v) faces) (weigh_points 4 (ends_in t v) ++ weigh_points 1 (opposites_in t v))
    quads-permuted round =
        let beside : List Term = map (λ f. weigh 4 (OfPoint (next f))) faces in
        let across : List Term = map (λ f. weigh 1 (OfPoint (opposite f))) faces in
        let behind : across ≡ weigh_points 1 (opposites_in t v) =
        sym (map-twice (λ p. weigh 1 (OfPoint p)) opposite faces) ∙ ap (weigh_points 1) opposites-same in
        let before : IsPermutation beside (weigh_points 4 (ends_in t v)) =
        subst (λ l. IsPermutation l (weigh_points 4 (ends_in t v))) (map-twice (λ p. weigh 4 (OfPoint p)) next faces)
        (points-permuted 4 (map next faces) (ends_in t v) (nexts-permuted round)) in
        IsPermutation-trans (flat_map (face_terms polygons v) faces) (beside ++ across) (weigh_points 4 (ends_in t v) ++ weigh_points 1 (opposites_in t v))
        (pairs-permuted (λ f. weigh 4 (OfPoint (next f))) (λ f. weigh 1 (OfPoint (opposite f))) faces)
        (subst (λ l. IsPermutation (beside ++ across) (weigh_points 4 (ends_in t v) ++ l)) behind (append-kept beside (weigh_points 4 (ends_in t v)) across before))
      where
        append-kept : (xs ys zs : List Term) → IsPermutation xs ys → IsPermutation (xs ++ zs) (ys ++ zs)
        append-kept xs ys zs h = IsPermutation-append _ _ _ _ h (IsPermutation-refl zs)
