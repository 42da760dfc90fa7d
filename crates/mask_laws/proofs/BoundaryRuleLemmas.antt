-- A vertex at a sharp boundary is a crease or a corner, in its level and in the next; one whose rule is smooth or a
-- dart has as many faces as edges.
use Rattle.std.proofs.Common.{◌≡◌, ℕ, ◌+◌, ◌≤◌, Bool, true, false, not, ◌&&◌, ◌||◌, nat_eq, List, [], ◌∷◌, length, map, arith, refl, sym, ◌∙◌}
use Rattle.std.specs.List.{filter, list_all, count_by}
use Rattle.std.proofs.lemmas.Bool.{and_from, and_parts, cond_both, eq-eqb, le-leb, false_from_ne_true, false≢true}
use Rattle.std.proofs.lemmas.Bool.Decides.{nat_tests}
use Rattle.std.proofs.lemmas.List.{length-map}
use Rattle.subdiv_model.specs.Lists.{places, places_from}
use Rattle.subdiv_model.specs.Polygons.{has_distinct_sides}
use Rattle.subdiv_model.specs.Manifold.{is_simple}
use Rattle.subdiv_model.specs.Edges.{all_sides, edges_of, has_end, is_boundary}
use Rattle.subdiv_model.specs.Base.{is_at_boundary}
use Rattle.subdiv_model.specs.Sharpness.{Sharpness, Smooth, Semi, Infinite, Method, is_sharp, uniform_child, half_child}
use Rattle.subdiv_model.specs.Rule.{Rule, CornerRule, vertex_rule, rule_of_sharp_edges, is_smooth_or_dart, child_ring}
use Rattle.subdiv_model.specs.Level.{Level, edge_sharpness_of, vertex_sharpness_of, ring_at, edges_at, faces_at}
use Rattle.subdiv_model.specs.Mask.{is_interior, rule_at, child_rule_at}
use Rattle.number_laws.proofs.CountLemmas.{one_if, one-yes, count-cons}
use Rattle.mesh_laws.proofs.PointLemmas.{two-edges, interior-faces, boundary-edges}
use Rattle.subdiv_model.specs.Feature.{is_infinite}
use Rattle.mask_laws.specs.SharpBoundary.{has_sharp_boundary}
use Rattle.mask_laws.proofs.BoundaryLemmas.{infinite-half}

-- edges of one face that end at a point have infinite places in its ring
ring-infinite : (on_boundary end : ℕ × ℕ → Bool) (f : ℕ × ℕ → Sharpness) (edges : List (ℕ × ℕ))
    → list_all (λ e. not (on_boundary e) || is_infinite (f e)) edges ≡ true
    → count_by (λ e. on_boundary e && end e) edges ≤ count_by is_infinite (map f (filter end edges))
ring-infinite on_boundary end f [] h = omega arith
ring-infinite on_boundary end f (e ∷ edges) h =
    let parts = and_parts (not (on_boundary e) || is_infinite (f e)) (list_all (λ x. not (on_boundary x) || is_infinite (f x)) edges) h in
    let behind = ring-infinite on_boundary end f edges parts.1 in
    let rest = map f (filter end edges) in
    cond_both (end e) (e ∷ filter end edges) (filter end edges)
    (λ es. count_by (λ x. on_boundary x && end x) (e ∷ edges) ≤ count_by is_infinite (map f es))
    (λ yes.
    let here : one_if (on_boundary e && end e) ≤ one_if (is_infinite (f e)) = at-most (on_boundary e) (end e) (is_infinite (f e)) parts.0 in
    omega (arith, count-cons (λ x. on_boundary x && end x) e edges, count-cons is_infinite (f e) rest))
    (λ no. let here : one_if (on_boundary e && end e) ≡ 0 = none (on_boundary e) (end e) no in omega (arith, count-cons (λ x. on_boundary x && end x) e edges))
  where
    at-most : (a b c : Bool) → (not a || c) ≡ true → one_if (a && b) ≤ one_if c
    at-most a b c h = grind (arith, nat_tests)

    none : (a b : Bool) → b ≡ false → one_if (a && b) ≡ 0
    none a b h = grind (arith, nat_tests)

-- infinite edges stay so in the next ring
child-infinite : (method : Method) (all ring : List Sharpness)
    → count_by is_infinite ring ≤ count_by is_infinite (map (half_child method all) ring)
child-infinite method all [] = omega arith
child-infinite method all (s ∷ ring) =
    let behind = child-infinite method all ring in
    let here : one_if (is_infinite s) ≤ one_if (is_infinite (half_child method all s)) = at-most _ _ (infinite-half method all s) in
    omega (arith, count-cons is_infinite s ring, count-cons is_infinite (half_child method all s) (map (half_child method all) ring))
  where
    at-most : (a b : Bool) → (a ≡ true → b ≡ true) → one_if a ≤ one_if b
    at-most true b h = let e : one_if b ≡ 1 = one-yes b (h refl) in omega arith
    at-most false b h = omega arith

-- infinite edges are sharp
places-infinite : (place : ℕ) (ring : List Sharpness) → count_by is_infinite ring ≤ length (places_from place is_sharp ring)
places-infinite place [] = omega arith
places-infinite place (Smooth ∷ ring) = omega (arith, count-cons is_infinite Smooth ring, places-infinite (place + 1) ring)
places-infinite place (Semi num den ∷ ring) = omega (arith, count-cons is_infinite (Semi num den) ring, places-infinite (place + 1) ring)
places-infinite place (Infinite ∷ ring) = omega (arith, count-cons is_infinite Infinite ring, places-infinite (place + 1) ring)

few-places : (sharp : List ℕ) → is_smooth_or_dart (rule_of_sharp_edges sharp) ≡ true → length sharp ≤ 1
few-places [] h = omega arith
few-places (a ∷ []) h = omega arith
few-places (a ∷ (b ∷ [])) h = absurd (false≢true h)
few-places (a ∷ (b ∷ (c ∷ sharp))) h = absurd (false≢true h)

-- a vertex that is smooth or a dart has an edge, and at most one that is infinite
few-infinite : (vertex : Sharpness) (ring : List Sharpness) → is_smooth_or_dart (vertex_rule vertex ring) ≡ true
    → (1 ≤ length ring) × (count_by is_infinite ring ≤ 1)
few-infinite vertex ring =
    cond_both (is_sharp vertex || nat_eq (length ring) 0) CornerRule (rule_of_sharp_edges (places is_sharp ring))
    (λ rule. is_smooth_or_dart rule ≡ true → (1 ≤ length ring) × (count_by is_infinite ring ≤ 1))
    (λ _ h. absurd (false≢true h))
    (λ plain h.
    let some : 1 ≤ length ring = long (is_sharp vertex) (length ring) plain in
    let few : count_by is_infinite ring ≤ 1 = omega (arith, places-infinite 0 ring, few-places (places is_sharp ring) h) in (some, few))
  where
    long : (b : Bool) (n : ℕ) → (b || nat_eq n 0) ≡ false → 1 ≤ n
    long b n h = grind (arith, nat_tests)

module _ (level : Level) (simple : list_all is_simple level.polygons ≡ true) (distinct : has_distinct_sides (all_sides level.polygons) ≡ true) where
  -- away from the boundary a point with an edge has as many faces as edges, and at least two
  pub interior-away : (v : ℕ) → is_at_boundary level.polygons v ≡ false → 1 ≤ length (edges_at level v) → is_interior level v ≡ true
  interior-away v away some =
      and_from _ _ (le-leb 2 (length (edges_at level v)) (two-edges level.polygons simple v some))
      (eq-eqb (length (faces_at level v)) (length (edges_at level v)) (interior-faces level.polygons simple distinct v away))

  module _ (sharp : has_sharp_boundary level ≡ true) where
    -- a point at the boundary has at least two infinite edges
    two-infinite : (v : ℕ) → is_at_boundary level.polygons v ≡ true → 2 ≤ count_by is_infinite (ring_at level v)
    two-infinite v at =
        omega (
          arith,
          boundary-edges level.polygons simple distinct v at,
          ring-infinite (is_boundary level.polygons) (has_end v) (edge_sharpness_of level) (edges_of level.polygons) sharp,
        )

    -- a vertex at a sharp boundary is neither smooth nor a dart, in its level and in the next
    pub boundary-now : (v : ℕ) → is_at_boundary level.polygons v ≡ true → is_smooth_or_dart (rule_at level v) ≡ false
    boundary-now v at =
        false_from_ne_true _ (λ h. omega (arith, two-infinite v at, (few-infinite (vertex_sharpness_of level v) (ring_at level v) h).1))

    pub boundary-next : (v : ℕ) → is_at_boundary level.polygons v ≡ true → is_smooth_or_dart (child_rule_at level v) ≡ false
    boundary-next v at =
        let ring = ring_at level v in
        false_from_ne_true _ (λ h. omega (
          arith,
          two-infinite v at,
          child-infinite level.method ring ring,
          (few-infinite (uniform_child (vertex_sharpness_of level v)) (child_ring level.method ring) h).1,
        ))

    -- where it is one of the two it is away from the boundary
    away-from : (v : ℕ) (rule : Rule) → (is_at_boundary level.polygons v ≡ true → is_smooth_or_dart rule ≡ false)
        → is_smooth_or_dart rule ≡ true → is_at_boundary level.polygons v ≡ false
    away-from v rule at h = false_from_ne_true _ (λ k. false≢true (sym (at k) ∙ h))

    pub interior-now : (v : ℕ) → is_smooth_or_dart (rule_at level v) ≡ true → is_interior level v ≡ true
    interior-now v h =
        let some = (few-infinite (vertex_sharpness_of level v) (ring_at level v) h).0 in
        interior-away v (away-from v (rule_at level v) (boundary-now v) h) (omega (
          arith,
          some,
          length-map (edges_at level v) (edge_sharpness_of level),
        ))

    pub interior-next : (v : ℕ) → is_smooth_or_dart (child_rule_at level v) ≡ true → is_interior level v ≡ true
    interior-next v h =
        let ring = ring_at level v in
        let some = (few-infinite (uniform_child (vertex_sharpness_of level v)) (child_ring level.method ring) h).0 in
        interior-away v (away-from v (child_rule_at level v) (boundary-next v) h) (omega (
          arith,
          some,
          length-map ring (half_child level.method ring),
          length-map (edges_at level v) (edge_sharpness_of level),
        ))
