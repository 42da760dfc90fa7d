-- The masks of points that stay and of creases along the boundary.
use Rattle.std.proofs.Common.{◌≡◌, ℕ, ◌+◌, ◌<◌, Bool, true, false, not, ◌&&◌, ◌||◌, nat_eq, List, [], ◌∷◌, length, map, get_or, arith, refl, ap, sym, ◌∙◌, ◌⊎◌, inl, inr, if◌then◌else◌}
use Rattle.std.specs.List.{list_all, sum_by, count_by}
use Rattle.std.proofs.lemmas.Bool.Decides.{nat_tests}
use Rattle.std.proofs.lemmas.Bool.{and_parts, and_from, eq-eqb, cond-true, cond-false, or_cases, false≢true}
use Rattle.std.proofs.lemmas.List.{length-map, get_or-map}
use Rattle.std.proofs.lemmas.List.Folds.{list_all-map}
use Rattle.subdiv_model.specs.Lists.{places}
use Rattle.subdiv_model.specs.Polygons.{same_edge}
use Rattle.subdiv_model.specs.Edges.{all_sides, edges_of, has_end, faces_of_edge, is_boundary}
use Rattle.subdiv_model.specs.Sharpness.{Sharpness, Smooth, Semi, Infinite, Normal, Chaikin, Method, is_sharp, is_semi_sharp, half_child, uniform_child}
use Rattle.subdiv_model.specs.Rule.{Rule, CreaseRule, CornerRule, vertex_rule, rule_of_sharp_edges, same_mask, child_ring, transition_weight}
use Rattle.subdiv_model.specs.Level.{Level, edge_sharpness_of, vertex_sharpness_of, edges_at, faces_at, ring_at}
use Rattle.subdiv_model.specs.Mask.{CatmullClark, mask_of_vertex, mask_of_rule, mask_of_edge, transition_mask, corner_mask, crease_mask, sharp_edge_mask, other_end, ends_at, vertex_mask, edge_mask}
use Rattle.number_laws.proofs.CountLemmas.{one_if, count-agree, count-some, sum-plus, all-weaker}
use Rattle.mesh_laws.proofs.SideLemmas.{same_edge-sym}
use Rattle.mesh_laws.proofs.EdgeLemmas.{first_named-once}
use Rattle.mesh_laws.proofs.ClosedLemmas.{all-at}
use Rattle.mesh_laws.proofs.PointLemmas.{boundary-alike}
use Rattle.mask_laws.proofs.BoundaryLemmas.{IsSharpAtBoundary, is-infinite, sharp-at, boundary-named}
use Rattle.limit_laws.proofs.CreaseLemmas.{IsCrease}
use Rattle.limit_laws.proofs.PlaceLemmas.{kept-pass, count-kept, places-mapped, HasTwoPlaces, two-placed, two-count}
use Rattle.limit_laws.proofs.EdgeStarLemmas.{other-alike}

-- Points and edges that are infinitely sharp.

-- an infinitely sharp vertex stays as it is
pub kept-vertex : (level : Level) (v : ℕ) → vertex_sharpness_of level v ≡ Infinite → vertex_mask level CatmullClark v ≡ corner_mask v
kept-vertex level v h =
    ap (λ s. mask_of_vertex s (uniform_child s) (ring_at level v) (child_ring level.method (ring_at level v)) v (ends_at level v) (faces_at level v)) h

-- the new point of an infinitely sharp edge is its middle
pub middle-edge : (level : Level) (e : ℕ × ℕ) → edge_sharpness_of level e ≡ Infinite → edge_mask level CatmullClark e ≡ sharp_edge_mask e
middle-edge level e h = ap (λ s. mask_of_edge s e (faces_of_edge level.polygons e)) h

-- Creases.

-- where the rule is one in the level and in the next, the mask is that of the rule
pub same-rule : (vertex vertex_child : Sharpness) (ring ring_child : List Sharpness) (v : ℕ) (ends faces : List ℕ) (rule : Rule)
    → vertex_rule vertex ring ≡ rule → vertex_rule vertex_child ring_child ≡ rule → same_mask rule rule ≡ true
    → mask_of_vertex vertex vertex_child ring ring_child v ends faces ≡ mask_of_rule v ends faces rule
same-rule vertex vertex_child ring ring_child v ends faces rule one two same =
    let parent = vertex_rule vertex ring in
    let child = vertex_rule vertex_child ring_child in
    let here = mask_of_rule v ends faces parent in
    let there = transition_mask (transition_weight vertex vertex_child ring ring_child) here (mask_of_rule v ends faces child) in
    cond-true (same_mask parent child) here there (ap (λ r. same_mask r child) one ∙ ap (same_mask rule) two ∙ same)
    ∙ ap (mask_of_rule v ends faces) one

-- sharpness that is not semi-sharp stays
pub stays : (method : Method) (ring : List Sharpness) (s : Sharpness) → not (is_semi_sharp s) ≡ true → half_child method ring s ≡ s
stays method ring (Semi num den) h = absurd (false≢true h)
stays Normal ring Smooth h = refl
stays Chaikin ring Smooth h = refl
stays Normal ring Infinite h = refl
stays Chaikin ring Infinite h = refl

-- a ring without semi-sharp edges stays as it is
pub ring-stays : (method : Method) (all ring : List Sharpness) → list_all (λ s. not (is_semi_sharp s)) ring ≡ true
    → map (half_child method all) ring ≡ ring
ring-stays method all [] h = refl
ring-stays method all (s ∷ ring) h =
    let parts = and_parts (not (is_semi_sharp s)) (list_all (λ r. not (is_semi_sharp r)) ring) h in
    rw (stays method all s parts.0, ring-stays method all ring parts.1) refl

-- a crease has the mask of itself
pub same-crease : (i j : ℕ) → same_mask (CreaseRule i j) (CreaseRule i j) ≡ true
same-crease i j = and_from _ _ (eq-eqb i i refl) (eq-eqb j j refl)

-- an edge from p goes to a or to b, and not to both
not-both : (p a b : ℕ) (e : ℕ × ℕ) → nat_eq a b ≡ false
    → one_if (same_edge e (p, a) || same_edge e (p, b)) ≡ one_if (same_edge (p, a) e) + one_if (same_edge (p, b) e)
not-both p a b e apart = grind (arith, nat_tests)

-- an edge from p ends there
ends-there : (p a : ℕ) (e : ℕ × ℕ) → (has_end p e && same_edge (p, a) e) ≡ same_edge (p, a) e
ends-there p a e = grind (arith, nat_tests)

-- an edge that does not end at the point is none of the two
no-end : (p a b : ℕ) (e : ℕ × ℕ) → has_end p e ≡ false → (same_edge e (p, a) || same_edge e (p, b)) ≡ false
no-end p a b e h = grind (arith, nat_tests)

-- a choice of infinite and smooth by a test is sharp where the test holds, and never semi-sharp
choice-sharp : (b : Bool) → is_sharp (if b then Infinite else Smooth) ≡ b
choice-sharp true = refl
choice-sharp false = refl

choice-plain : (b : Bool) → not (is_semi_sharp (if b then Infinite else Smooth)) ≡ true
choice-plain true = refl
choice-plain false = refl

choice-whole : (b : Bool) (s : Sharpness) → (b ≡ true → s ≡ Infinite) → (b ≡ false → s ≡ Smooth) → s ≡ (if b then Infinite else Smooth)
choice-whole true s h k = h refl
choice-whole false s h k = k refl

module _ (level : Level) (is : IsSharpAtBoundary level) (p a b : ℕ) (crease : IsCrease level p a b) where
  -- the edge is sharp
  abbrev sharp_at : ℕ × ℕ → Bool
  sharp_at e = is_sharp (edge_sharpness_of level e)

  -- the edge is one of the two along the boundary
  abbrev along : ℕ × ℕ → Bool
  along e = same_edge e (p, a) || same_edge e (p, b)

  -- a boundary edge at p is infinitely sharp, named in either direction
  named-infinite : (c : ℕ) → is_boundary level.polygons (p, c) ≡ true → (e : ℕ × ℕ) → same_edge e (p, c) ≡ true
      → edge_sharpness_of level e ≡ Infinite
  named-infinite c on_boundary e same =
      is-infinite (edge_sharpness_of level e)
      (sharp-at level is.simple is.sharp e (boundary-alike level.polygons is.simple e (p, c) same ∙ on_boundary))

  along-infinite : (e : ℕ × ℕ) → along e ≡ true → edge_sharpness_of level e ≡ Infinite
  along-infinite e h = here (or_cases (same_edge e (p, a)) (same_edge e (p, b)) h)
    where
      here : (same_edge e (p, a) ≡ true) ⊎ (same_edge e (p, b) ≡ true) → edge_sharpness_of level e ≡ Infinite
      here (inl k) = named-infinite a crease.to_a e k
      here (inr k) = named-infinite b crease.to_b e k

  -- an edge at the point is infinitely sharp where it is one of the two, and smooth else
  crease-edge : (e : ℕ × ℕ) → has_end p e ≡ true → edge_sharpness_of level e ≡ (if along e then Infinite else Smooth)
  crease-edge e at = choice-whole (along e) (edge_sharpness_of level e) (along-infinite e) (crease.rest e at)

  -- an edge at the point is sharp where it is one of the two
  edge-sharp : (e : ℕ × ℕ) → has_end p e ≡ true → sharp_at e ≡ along e
  edge-sharp e at = ap is_sharp (crease-edge e at) ∙ choice-sharp (along e)

  -- an edge at the point is never semi-sharp
  edge-plain : (e : ℕ × ℕ) → has_end p e ≡ true → not (is_semi_sharp (edge_sharpness_of level e)) ≡ true
  edge-plain e at = ap (λ s. not (is_semi_sharp s)) (crease-edge e at) ∙ choice-plain (along e)

  -- the sharp edges at the point are the two
  sharp-there : (e : ℕ × ℕ) → (has_end p e && sharp_at e) ≡ along e
  sharp-there e = here (has_end p e) refl
    where
      here : (at : Bool) → has_end p e ≡ at → (has_end p e && sharp_at e) ≡ along e
      here true h = ap (λ x. x && sharp_at e) h ∙ edge-sharp e h
      here false h = ap (λ x. x && sharp_at e) h ∙ sym (no-end p a b e h)

  -- each of the two is listed once
  once : (c : ℕ) → is_boundary level.polygons (p, c) ≡ true → count_by (same_edge (p, c)) (edges_of level.polygons) ≡ 1
  once c on_boundary =
      let there = boundary-named level is.simple (p, c) on_boundary in
      omega (arith, first_named-once (p, c) (all_sides level.polygons), count-some (same_edge (p, c)) (edges_of level.polygons) there)

  -- the edge is listed once at the point
  once-there : (c : ℕ) → is_boundary level.polygons (p, c) ≡ true → count_by (same_edge (p, c)) (edges_at level p) ≡ 1
  once-there c on_boundary =
      count-kept (has_end p) (same_edge (p, c)) (edges_of level.polygons)
      ∙ count-agree (λ e. has_end p e && same_edge (p, c) e) (same_edge (p, c)) (ends-there p c) (edges_of level.polygons)
      ∙ once c on_boundary

  -- two edges at the point are sharp
  two-sharp : count_by sharp_at (edges_at level p) ≡ 2
  two-sharp =
      let edges = edges_of level.polygons in
      let each : (e : ℕ × ℕ) → one_if (has_end p e && sharp_at e) ≡ one_if (same_edge (p, a) e) + one_if (same_edge (p, b) e) =
      λ e. ap one_if (sharp-there e) ∙ not-both p a b e crease.apart in
      let sums : count_by (λ e. has_end p e && sharp_at e) edges ≡ sum_by (λ e. one_if (same_edge (p, a) e) + one_if (same_edge (p, b) e)) edges =
      λ i. sum_by (λ e. each e i) edges in
      let split = sum-plus (λ e. one_if (same_edge (p, a) e)) (λ e. one_if (same_edge (p, b) e)) edges in
      count-kept (has_end p) sharp_at edges ∙ sums ∙ split ∙ omega (arith, once a crease.to_a, once b crease.to_b)

  -- the places of the two edges in the ring
  places-two : HasTwoPlaces sharp_at (0, 0) 0 (edges_at level p)
  places-two = two-placed sharp_at (0, 0) 0 (edges_at level p) two-sharp

  -- the edge at a place of the ring
  abbrev edge_at : ℕ → ℕ × ℕ
  edge_at i = get_or (edges_at level p) i (0, 0)

  -- a sharp one is one of the two
  along-at : (i : ℕ) → i < length (edges_at level p) → sharp_at (edge_at i) ≡ true → along (edge_at i) ≡ true
  along-at i h sharp =
      let at = all-at (has_end p) (edges_at level p) i (0, 0) h (kept-pass (has_end p) (edges_of level.polygons)) in
      sym (edge-sharp (edge_at i) at) ∙ sharp

  -- the rule of the point, in the level and in the next
  rule-of : (s : Sharpness) → s ≡ Smooth → vertex_rule s (ring_at level p) ≡ CreaseRule places-two.i places-two.j
  rule-of s smooth =
      let two = places-two in
      let ring = ring_at level p in
      let some : nat_eq (length ring) 0 ≡ false =
      not-none (length ring) two.j (omega (arith, two.within, length-map (edges_at level p) (edge_sharpness_of level))) in
      let first : 0 + two.i ≡ two.i = omega arith in
      let second : 0 + two.j ≡ two.j = omega arith in
      cond-false (is_sharp s || nat_eq (length ring) 0) CornerRule (rule_of_sharp_edges (places is_sharp ring))
      (ap (λ t. is_sharp t || nat_eq (length ring) 0) smooth ∙ some)
      ∙ ap rule_of_sharp_edges (places-mapped (edge_sharpness_of level) is_sharp 0 (edges_at level p) ∙ two.is)
      ∙ ap (λ i. CreaseRule i (0 + two.j)) first
      ∙ ap (λ j. CreaseRule two.i j) second
    where
      not-none : (n j : ℕ) → j < n → nat_eq n 0 ≡ false
      not-none n j h = grind (arith, nat_tests)

  -- the mask of the point is that of a crease between the ends of the two edges
  mask-at : vertex_mask level CatmullClark p
      ≡ crease_mask p (get_or (ends_at level p) places-two.i 0) (get_or (ends_at level p) places-two.j 0)
  mask-at =
      let vertex = vertex_sharpness_of level p in
      let ring = ring_at level p in
      let still : child_ring level.method ring ≡ ring =
      ring-stays level.method ring ring
      (list_all-map (λ s. not (is_semi_sharp s)) (edge_sharpness_of level) (edges_at level p)
      ∙ all-weaker (has_end p) (λ e. not (is_semi_sharp (edge_sharpness_of level e))) edge-plain (edges_at level p)
      (kept-pass (has_end p) (edges_of level.polygons))) in
      same-rule vertex (uniform_child vertex) ring (child_ring level.method ring) p (ends_at level p) (faces_at level p)
      (CreaseRule places-two.i places-two.j) (rule-of vertex crease.smooth)
      (ap (vertex_rule (uniform_child vertex)) still ∙ rule-of (uniform_child vertex) (ap uniform_child crease.smooth))
      (same-crease places-two.i places-two.j)

  -- the end of one that goes to c
  end-at : (c i : ℕ) → i < length (edges_at level p) → same_edge (edge_at i) (p, c) ≡ true → get_or (ends_at level p) i 0 ≡ c
  end-at c i h same = get_or-map (other_end p) (edges_at level p) i (0, 0) 0 h ∙ other-alike p c (edge_at i) same

  -- no edge has two places
  never-twice : (c i j : ℕ) → is_boundary level.polygons (p, c) ≡ true → i < j → j < length (edges_at level p)
      → same_edge (edge_at i) (p, c) ≡ true → same_edge (edge_at j) (p, c) ≡ true → ⊥
  never-twice c i j on_boundary order within first second =
      let twice =
      two-count (same_edge (p, c)) (0, 0) (edges_at level p) i j order within
      (same_edge-sym (p, c) (edge_at i) ∙ first) (same_edge-sym (p, c) (edge_at j) ∙ second) in
      omega (arith, twice, once-there c on_boundary)

  -- the mask of the point is that of a crease between its two neighbours, in one order or the other
  pub crease-vertex : (vertex_mask level CatmullClark p ≡ crease_mask p a b) ⊎ (vertex_mask level CatmullClark p ≡ crease_mask p b a)
  crease-vertex =
      here
      (or_cases _ _ (along-at places-two.i (omega (arith, places-two.order, places-two.within)) places-two.first))
      (or_cases _ _ (along-at places-two.j places-two.within places-two.second))
    where
      low : places-two.i < length (edges_at level p)
      low = omega (arith, places-two.order, places-two.within)

      mask-of_crease : (c d : ℕ) → same_edge (edge_at places-two.i) (p, c) ≡ true → same_edge (edge_at places-two.j) (p, d) ≡ true
          → vertex_mask level CatmullClark p ≡ crease_mask p c d
      mask-of_crease c d first second =
          mask-at
          ∙ ap (λ n. crease_mask p n (get_or (ends_at level p) places-two.j 0)) (end-at c places-two.i low first)
          ∙ ap (λ n. crease_mask p c n) (end-at d places-two.j places-two.within second)

      here : (same_edge (edge_at places-two.i) (p, a) ≡ true) ⊎ (same_edge (edge_at places-two.i) (p, b) ≡ true)
          → (same_edge (edge_at places-two.j) (p, a) ≡ true) ⊎ (same_edge (edge_at places-two.j) (p, b) ≡ true)
          → (vertex_mask level CatmullClark p ≡ crease_mask p a b) ⊎ (vertex_mask level CatmullClark p ≡ crease_mask p b a)
      here (inl h) (inl k) = absurd (never-twice a places-two.i places-two.j crease.to_a places-two.order places-two.within h k)
      here (inl h) (inr k) = inl (mask-of_crease a b h k)
      here (inr h) (inl k) = inr (mask-of_crease b a h k)
      here (inr h) (inr k) = absurd (never-twice b places-two.i places-two.j crease.to_b places-two.order places-two.within h k)
