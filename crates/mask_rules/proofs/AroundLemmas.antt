-- The lists of a level around a point are those of the definitions in another order, with each item once.
use Rattle.std.proofs.Common.{◌≡◌, ◌≢◌, ℕ, zero, suc, ◌<◌, Bool, true, false, not, ◌&&◌, nat_eq, if◌then◌else◌, List, [], ◌∷◌, length, map, get_or, arith, refl, ap, sym, subst, ◌∙◌}
use Rattle.std.specs.List.Sorted.{IsPermutation}
use Rattle.std.proofs.lemmas.Bool.{and_from, and_parts, eq-eqb, eqb-true, false_from_ne_true}
use Rattle.std.proofs.lemmas.Bool.Decides.{nat_tests}
use Rattle.std.proofs.lemmas.List.Sorted.{IsPermutation-map}
use Rattle.subdiv_model.specs.Polygons.{Polygon, same_edge, is_among, is_distinct}
use Rattle.subdiv_model.specs.Edges.{edges_of, edge_number, edges_of_point, has_end}
use Rattle.subdiv_model.specs.Sharpness.{Sharpness, Smooth, Chaikin, is_chaikin, uniform_child, half_child, chaikin_overflows}
use Rattle.subdiv_model.specs.Level.{edge_sharpness_of, vertex_sharpness_of, edges_at, faces_at, ring_at}
use Rattle.subdiv_model.specs.Rule.{child_ring, vertex_rule, same_mask, transition_overflows}
use Rattle.subdiv_model.specs.Channel.{chaikin_overflows_at, transition_overflows_at}
use Rattle.subdiv_model.specs.Mask.{CatmullClark, vertex_mask, other_end, mask_of_vertex}
use Rattle.sharpness_laws.specs.SameWeights.{HaveSameWeights}
use Rattle.sharpness_laws.proofs.RuleOrderLemmas.{same-next_vertex, same_mask-any_order}
use Rattle.sharpness_laws.proofs.OrderLemmas.{half_child-any_order, overflow-any_order, weight_overflow-any_order}
use Rattle.level_topology.specs.Topology.{Topology, IsTopology, IsEdgeAt, edge_at, end_at, edge_numbers_at}
use Rattle.level_topology.proofs.LawLemmas.{own-number, either-number, edges-each, edges-once}
use Rattle.level_topology.proofs.PlaceLemmas.{filter-item}
use Rattle.mask_rules.specs.Around.{end_of_edge, ends_in, faces_in, ring_in, mask_in, is_refused_in}
use Rattle.mask_rules.proofs.EdgeLemmas.{ends-distinct}

map-back : (back : ℕ → ℕ × ℕ) (number : ℕ × ℕ → ℕ) (es : List (ℕ × ℕ))
    → ((k : ℕ) → k < length es → back (number (get_or es k (0, 0))) ≡ get_or es k (0, 0)) → map back (map number es) ≡ es
map-back back number [] h = refl
map-back back number (e ∷ es) h =
    ap (λ x. x ∷ map back (map number es)) (h 0 (omega arith)) ∙ ap (λ l. e ∷ l) (map-back back number es (λ k inside. h (suc k) (omega arith)))

map-through : {X Y Z : Type 0} (f : Y → Z) (h : X → Y) (g : X → Z) (d : X) (xs : List X)
    → ((k : ℕ) → k < length xs → f (h (get_or xs k d)) ≡ g (get_or xs k d)) → map f (map h xs) ≡ map g xs
map-through f h g d [] same = refl
map-through f h g d (x ∷ xs) same =
    ap (λ z. z ∷ map f (map h xs)) (same 0 (omega arith)) ∙ ap (λ l. g x ∷ l) (map-through f h g d xs (λ k inside. same (suc k) (omega arith)))

pub map-same : {X Y : Type 0} (f g : X → Y) (d : X) (xs : List X) → ((k : ℕ) → k < length xs → f (get_or xs k d) ≡ g (get_or xs k d)) → map f xs ≡ map g xs
map-same f g d [] same = refl
map-same f g d (x ∷ xs) same =
    ap (λ y. y ∷ map f xs) (same 0 (omega arith)) ∙ ap (λ l. g x ∷ l) (map-same f g d xs (λ k inside. same (suc k) (omega arith)))

-- the edges with the numbers of edges are those edges
numbers-back : (polygons : List Polygon) (v : ℕ) → map (edge_at polygons) (edge_numbers_at polygons v) ≡ edges_of_point polygons v
numbers-back polygons v = map-back (edge_at polygons) (edge_number polygons) (edges_of_point polygons v) (λ k inside.
    let found = filter-item (has_end v) (0, 0) (edges_of polygons) k inside in
    ap (λ e. edge_at polygons (edge_number polygons e)) found.2 ∙ ap (edge_at polygons) (own-number polygons found.0 found.1) ∙ sym found.2)

-- the ends of edges that are distinct at a point are distinct
among-mapped : (f : ℕ → ℕ) (n : ℕ) (es : List ℕ) → ((k : ℕ) → k < length es → f (get_or es k 0) ≢ n) → is_among (map f es) n ≡ false
among-mapped f n [] h = refl
among-mapped f n (e ∷ es) h =
    let here : nat_eq n (f e) ≡ false = false_from_ne_true _ (λ same. h 0 (omega arith) (sym (eqb-true n (f e) same))) in
    let behind = among-mapped f n es (λ k inside. h (suc k) (omega arith)) in
    grind (arith, nat_tests)

distinct-mapped : (f : ℕ → ℕ) (es : List ℕ) → is_distinct es ≡ true
    → ((i j : ℕ) → i < length es → j < length es → f (get_or es i 0) ≡ f (get_or es j 0) → get_or es i 0 ≡ get_or es j 0)
    → is_distinct (map f es) ≡ true
distinct-mapped f [] once tells = refl
distinct-mapped f (e ∷ es) once tells =
    let parts = and_parts (not (is_among es e)) (is_distinct es) once in
    let apart : is_among (map f es) (f e) ≡ false = among-mapped f (f e) es (λ k inside same.
    let found : get_or es k 0 ≡ e = tells (suc k) 0 (omega arith) (omega arith) same in
    absent e es (grind (arith, nat_tests)) k inside found) in
    and_from _ _ (ap not apart) (distinct-mapped f es parts.1 (λ i j h k same. tells (suc i) (suc j) (omega arith) (omega arith) same))
  where
    absent : (n : ℕ) (xs : List ℕ) → is_among xs n ≡ false → (k : ℕ) → k < length xs → get_or xs k 0 ≢ n
    absent n [] h k inside = absurd (omega arith)
    absent n (x ∷ xs) h zero inside = λ same. let yes = eq-eqb n x (sym same) in absurd (cc)
    absent n (x ∷ xs) h (suc k) inside = absent n xs (grind (arith, nat_tests)) k (omega arith)

-- two edges of a point with one other end are the same
ends-tell : (v : ℕ) (d e : ℕ × ℕ) → has_end v d ≡ true → has_end v e ≡ true → other_end v d ≡ other_end v e → same_edge d e ≡ true
ends-tell v d e h k same = grind (arith, nat_tests)

other-differs : (v : ℕ) (e : ℕ × ℕ) → has_end v e ≡ true → nat_eq e.0 e.1 ≡ false → other_end v e ≢ v
other-differs v e h apart = λ same. grind (arith, nat_tests)

module _ (t : Topology) (v : ℕ) (is : IsTopology t) (inside : v < t.level.point_count) where
  abbrev items : List ℕ
  items = get_or t.edges_at v []

  edge-there : (i : ℕ) → i < length items → IsEdgeAt t.level.polygons v (get_or items i 0)
  edge-there i h = edges-each t v i is inside h

  has-there : (i : ℕ) → i < length items → has_end v (edge_at t.level.polygons (get_or items i 0)) ≡ true
  has-there i h = from v (edge_at t.level.polygons (get_or items i 0)) (edge-there i h).there
    where
      from : (v : ℕ) (e : ℕ × ℕ) → end_at e (if nat_eq v e.0 then 0 else 1) ≡ v → has_end v e ≡ true
      from v e h = grind (arith, nat_tests)

  pub around-distinct : is_distinct (v ∷ ends_in t v) ≡ true
  around-distinct =
      let polygons = t.level.polygons in
      let number = end_of_edge polygons v in
      let apart : is_among (ends_in t v) v ≡ false = among-mapped number v items (λ k h.
      let two = ends-distinct t (get_or items k 0) is (edge-there k h).exists in
      other-differs v (edge_at polygons (get_or items k 0)) (has-there k h) (grind (arith, nat_tests))) in
      and_from _ _ (ap not apart) (distinct-mapped number items (edges-once t v is inside) (λ i j h k same.
      let one = ends-tell v (edge_at polygons (get_or items i 0)) (edge_at polygons (get_or items j 0)) (has-there i h) (has-there j k) same in
      sym (own-number polygons (get_or items i 0) (edge-there i h).exists)
      ∙ either-number polygons (get_or items j 0) (edge_at polygons (get_or items i 0)) (edge-there j k).exists one))

  -- the edges at the point, in the order of the list
  abbrev edges : List (ℕ × ℕ)
  edges = map (edge_at t.level.polygons) items

  edges-permuted : IsPermutation (edges_at t.level v) edges
  edges-permuted =
      subst (λ es. IsPermutation es edges) (numbers-back t.level.polygons v)
      (IsPermutation-map (edge_at t.level.polygons) (edge_numbers_at t.level.polygons v) items (is.listed v inside).edges)

  ring-there : map (edge_sharpness_of t.level) edges ≡ ring_in t v
  ring-there =
      map-through (edge_sharpness_of t.level) (edge_at t.level.polygons) (λ e. get_or t.level.edge_sharpness e Smooth) 0 items (λ k h.
      ap (λ n. get_or t.level.edge_sharpness n Smooth) (own-number t.level.polygons (get_or items k 0) (edge-there k h).exists))

  ends-there : map (other_end v) edges ≡ ends_in t v
  ends-there = map-through (other_end v) (edge_at t.level.polygons) (end_of_edge t.level.polygons v) 0 items (λ k h. refl)

  -- the definition's ring is the same in another order
  pub ring-permuted : IsPermutation (ring_at t.level v) (ring_in t v)
  ring-permuted = subst (IsPermutation (ring_at t.level v)) ring-there (IsPermutation-map (edge_sharpness_of t.level) (edges_at t.level v) edges edges-permuted)

  -- the mask over the lists of the level weighs as the definition's
  pub same-order : HaveSameWeights (vertex_mask t.level CatmullClark v) (mask_in t v)
  same-order =
      let vertex = vertex_sharpness_of t.level v in
      let moved = same-next_vertex (edge_sharpness_of t.level) t.level.method vertex (uniform_child vertex) (edges_at t.level v) edges edges-permuted (other_end v) v (faces_at t.level v) (faces_in t v) (is.listed v inside).faces in
      subst (λ ring. HaveSameWeights (vertex_mask t.level CatmullClark v) (mask_of_vertex vertex (uniform_child vertex) ring (child_ring t.level.method ring) v (ends_in t v) (faces_in t v))) ring-there
      (subst (λ ends. HaveSameWeights (vertex_mask t.level CatmullClark v) (mask_of_vertex vertex (uniform_child vertex) (map (edge_sharpness_of t.level) edges) (child_ring t.level.method (map (edge_sharpness_of t.level) edges)) v ends (faces_in t v))) ends-there moved)

  -- a weight is refused in every order of the edges
  pub refused-same : is_refused_in t v ≡ transition_overflows_at t.level CatmullClark v
  refused-same =
      let level = t.level in
      let vertex = vertex_sharpness_of level v in
      let vertex_child = uniform_child vertex in
      let now : ℕ × ℕ → Sharpness = edge_sharpness_of level in
      let next : ℕ × ℕ → Sharpness = λ e. half_child level.method (ring_at level v) (now e) in
      let refuses : List Sharpness → List Sharpness → Bool =
      λ ring ring_child. not (same_mask (vertex_rule vertex ring) (vertex_rule vertex_child ring_child)) && transition_overflows vertex vertex_child ring ring_child in
      let here : child_ring level.method (ring_at level v) ≡ map next (edges_at level v) =
      map-through (half_child level.method (ring_at level v)) now next (0, 0) (edges_at level v) (λ k h. refl) in
      let alike : child_ring level.method (ring_in t v) ≡ map (half_child level.method (ring_at level v)) (ring_in t v) =
      map-same (half_child level.method (ring_in t v)) (half_child level.method (ring_at level v)) Smooth (ring_in t v) (λ k h.
      sym (half_child-any_order (ring_at level v) (ring_in t v) ring-permuted level.method (get_or (ring_in t v) k Smooth))) in
      let there : child_ring level.method (ring_in t v) ≡ map next edges =
      alike ∙ ap (map (half_child level.method (ring_at level v))) (sym ring-there)
      ∙ map-through (half_child level.method (ring_at level v)) now next (0, 0) edges (λ k h. refl) in
      ap (λ ring. refuses ring (child_ring level.method (ring_in t v))) (sym ring-there)
      ∙ ap (refuses (map now edges)) there
      ∙ sym (ap (λ b. not b && transition_overflows vertex vertex_child (map now (edges_at level v)) (map next (edges_at level v)))
      (same_mask-any_order now next vertex vertex_child (edges_at level v) edges edges-permuted)
      ∙ ap (λ b. not (same_mask (vertex_rule vertex (map now edges)) (vertex_rule vertex_child (map next edges))) && b)
      (weight_overflow-any_order now next vertex vertex_child (edges_at level v) edges edges-permuted))
      ∙ sym (ap (refuses (ring_at level v)) here)

  -- the half of an edge is refused in every order of the edges or in none
  pub fine-same : chaikin_overflows_at t.level v ≡ false → t.level.method ≡ Chaikin → chaikin_overflows (ring_in t v) ≡ false
  fine-same fine chaikin =
      let own : chaikin_overflows (ring_at t.level v) ≡ chaikin_overflows_at t.level v = sym (ap (λ m. is_chaikin m && chaikin_overflows (ring_at t.level v)) chaikin) in
      sym (overflow-any_order (ring_at t.level v) (ring_in t v) ring-permuted) ∙ own ∙ fine
