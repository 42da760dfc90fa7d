-- The halves of edges, put point by point.
use Rattle.std.proofs.Common.{◌≡◌, ◌≢◌, ℕ, ◌+◌, ◌*◌, ◌<◌, ◌≤◌, ◌^◌, Bool, true, false, ◌&&◌, nat_eq, List, [], length, map, get_or, set, arith, refl, ap, sym, subst, ◌∙◌}
use Rattle.std.specs.List.Sorted.{IsPermutation}
use Rattle.std.proofs.lemmas.Bool.{eqb-true, eq-eqb}
use Rattle.std.proofs.lemmas.List.{get_or-map, length-map, length-set, get_or-set_same, get_or-set_other}
use Rattle.std.proofs.lemmas.List.Sums.{length-filter, count_by-le-length}
use Rattle.std.proofs.lemmas.List.Sorted.{IsPermutation-map, length_permutation}
use Rattle.std.proofs.lemmas.Simd.{map-map}
use Rattle.subdiv_model.specs.Polygons.{Polygon}
use Rattle.subdiv_model.specs.Edges.{edges_of, edge_number, edges_of_point, has_end}
use Rattle.subdiv_model.specs.Sharpness.{Sharpness, Smooth, is_chaikin, chaikin_overflows, half_child}
use Rattle.subdiv_model.specs.Level.{ring_at, edge_sharpness_of}
use Rattle.subdiv_model.specs.Child.{half_sharpness}
use Rattle.subdiv_model.specs.Channel.{chaikin_overflows_at}
use Rattle.sharpness_laws.proofs.OrderLemmas.{half_child-any_order, overflow-any_order}
use Rattle.sharpness_rules.specs.declared.child.Method.{Method}
use Rattle.sharpness_rules.specs.declared.sharpness.Sharpness as rules
use Rattle.sharpness_rules.specs.View.{sharpness_of, method_of}
use Rattle.sharpness_rules.specs.Halves.{halves_overflow}
use Rattle.level_topology.specs.Topology.{Topology, IsTopology, edge_at, end_of, edge_numbers_at}
use Rattle.level_topology.proofs.LawLemmas.{own-number, edges-each, edges-all}
use Rattle.level_topology.proofs.FanOrderLemmas.{among-at}
use Rattle.child_slots.specs.Slots.{half_slot}
use Rattle.child_slots.specs.HalfTable.{AreAllHalves, AreHalvesPut, IsHalfPut, ring_listed}
use Rattle.child_slots.proofs.SlotLemmas.{end-low, few-edges, over-of}
use Rattle.child_slots.proofs.SlotTellLemmas.{end-below, end-tells}
use Rattle.child_slots.proofs.EndLemmas.{end-has}

module _ (t : Topology) (is : IsTopology t) where
  abbrev polygons : List Polygon
  polygons = t.level.polygons

  -- equal slots of halves have equal edges and equal ends
  one-slot : (u w e d : ℕ) → has_end u (edge_at polygons e) ≡ true → has_end w (edge_at polygons d) ≡ true → half_slot polygons u e ≡ half_slot polygons w d → (e ≡ d) × (u ≡ w)
  one-slot u w e d h k same =
      let edges : e ≡ d = omega (arith, same, end-low polygons u e, end-low polygons w d) in
      let ends : end_of polygons u e ≡ end_of polygons w e = omega (arith, same, edges, ap (end_of polygons w) edges) in
      (edges, end-tells t.level.point_count polygons (over-of t is) is.simple e u w h (ap (λ n. has_end w (edge_at polygons n)) edges ∙ k) ends)

  -- nothing is put yet
  pub halves-none : (has : ℕ → Bool) (halves : List rules.Sharpness) → length halves ≡ 2 * length (edges_of polygons) → AreHalvesPut t has 0 0 (map sharpness_of halves)
  halves-none has halves n = record {
    count = length-map halves sharpness_of ∙ n;
    fine = λ u less. absurd (omega arith);
    points = λ u d less. absurd (omega arith);
    places = λ k less. absurd (omega arith);
  }

  -- at the end each half of each edge is there
  pub halves-all : (has : ℕ → Bool) (v : ℕ) (halves : List Sharpness) → v ≡ t.level.point_count → AreHalvesPut t has v 0 halves → AreAllHalves t has halves
  halves-all has v halves last put = record {
    put = record {
      count = put.count;
      each = λ e u there own ends. let low = end-below t.level.point_count polygons (over-of t is) is.simple e u there ends in put.points u e (omega (arith, low, last)) own there ends;
    };
    fine = λ u low own. put.fine u (omega (arith, low, last)) own;
  }

  module _ (v : ℕ) (low : v < t.level.point_count) where
    abbrev items : List ℕ
    items = get_or t.edges_at v []

    abbrev kept : ℕ → Sharpness
    kept e = get_or t.level.edge_sharpness e Smooth

    -- the edges of the list are those at the point, in another order
    ring-permuted : IsPermutation (ring_at t.level v) (ring_listed t v)
    ring-permuted =
        subst (λ ring. IsPermutation ring (ring_listed t v)) (map-map kept (edge_number polygons) (edges_of_point polygons v))
        (IsPermutation-map kept (edge_numbers_at polygons v) items (is.listed v low).edges)

    pub ring-long : (ring : List rules.Sharpness) → map sharpness_of ring ≡ ring_listed t v → length ring ≡ length items
    ring-long ring r = sym (length-map ring sharpness_of) ∙ ap length r ∙ length-map items kept

    pub ring-at : (i : ℕ) → i < length items → (i < length (ring_listed t v)) × (get_or (ring_listed t v) i Smooth ≡ kept (get_or items i 0))
    ring-at i inside = (omega (arith, inside, length-map items kept), get_or-map kept items i 0 Smooth inside)

    -- a point has no more edges than there are edges
    pub ring-short : length items < 2 ^ 28
    ring-short =
        omega (
          arith,
          length_permutation (edge_numbers_at polygons v) items (is.listed v low).edges,
          length-map (edges_of_point polygons v) (edge_number polygons),
          length-filter (has_end v) (edges_of polygons),
          count_by-le-length (has_end v) (edges_of polygons),
          few-edges t is,
        )

    pub edge-within : (i : ℕ) → i < length items → get_or items i 0 < length (edges_of polygons)
    edge-within i inside = (edges-each t v i is low inside).exists

    ends-there : (i : ℕ) → i < length items → has_end v (edge_at polygons (get_or items i 0)) ≡ true
    ends-there i inside = end-has v (end_of polygons v (get_or items i 0)) (edge_at polygons (get_or items i 0)) (edges-each t v i is low inside).there

    pub slot-within : (i : ℕ) → i < length items → half_slot polygons v (get_or items i 0) < 2 * length (edges_of polygons)
    slot-within i inside = omega (arith, edge-within i inside, end-low polygons v (get_or items i 0))

    -- whether halves overflow is seen in any order
    pub overflow-is : (method : Method) (ring : List rules.Sharpness) → method_of method ≡ t.level.method → map sharpness_of ring ≡ ring_listed t v → halves_overflow method ring ≡ chaikin_overflows_at t.level v
    overflow-is method ring m r =
        ap (λ k. is_chaikin k && chaikin_overflows (map sharpness_of ring)) m ∙ ap (λ xs. is_chaikin t.level.method && chaikin_overflows xs) r
        ∙ ap (λ b. is_chaikin t.level.method && b) (sym (overflow-any_order (ring_at t.level v) (ring_listed t v) ring-permuted))

    -- the half of an edge has the sharpness of the definition in any order of the edges
    pub half-is : (method : Method) (ring : List rules.Sharpness) (i : ℕ) (s half : Sharpness) → method_of method ≡ t.level.method → map sharpness_of ring ≡ ring_listed t v → i < length items → s ≡ get_or (map sharpness_of ring) i Smooth
        → half ≡ half_child (method_of method) (map sharpness_of ring) s → half ≡ half_sharpness t.level (edge_at polygons (get_or items i 0)) v
    half-is method ring i s half m r inside at made =
        let e = get_or items i 0 in
        let own : s ≡ edge_sharpness_of t.level (edge_at polygons e) =
        at ∙ ap (λ xs. get_or xs i Smooth) r ∙ (ring-at i inside).1 ∙ sym (ap kept (own-number polygons e (edge-within i inside))) in
        made ∙ ap (half_child (method_of method) (map sharpness_of ring)) own
        ∙ ap (λ k. half_child k (map sharpness_of ring) (edge_sharpness_of t.level (edge_at polygons e))) m
        ∙ ap (λ xs. half_child t.level.method xs (edge_sharpness_of t.level (edge_at polygons e))) r
        ∙ sym (half_child-any_order (ring_at t.level v) (ring_listed t v) ring-permuted t.level.method (edge_sharpness_of t.level (edge_at polygons e)))

    -- one half more
    pub half-more : (has : ℕ → Bool) (i slot : ℕ) (before after : List Sharpness) (half : Sharpness) → i < length items → slot ≡ half_slot polygons v (get_or items i 0) → half ≡ half_sharpness t.level (edge_at polygons (get_or items i 0)) v
        → after ≡ set before slot half → AreHalvesPut t has v i before → AreHalvesPut t has v (i + 1) after
    half-more has i slot before after half inside at made written put = record {
      count = ap length written ∙ length-set before slot half ∙ put.count;
      fine = put.fine;
      points = λ u e less own there ends. other u e (λ same. let both = one-slot u v e (get_or items i 0) ends (ends-there i inside) (same ∙ at) in absurd (omega (arith, both.1, less))) (put.points u e less own there ends);
      places = λ k less within. at-place k less within (nat_eq (half_slot polygons v (get_or items k 0)) slot) refl;
    }
      where
        other : (u e : ℕ) → half_slot polygons u e ≢ slot → IsHalfPut t.level before u e → IsHalfPut t.level after u e
        other u e apart was = ap (λ xs. get_or xs (half_slot polygons u e) Smooth) written ∙ get_or-set_other before slot (half_slot polygons u e) half Smooth apart ∙ was

        here : IsHalfPut t.level after v (get_or items i 0)
        here =
            let room : slot < length before = omega (arith, at, put.count, slot-within i inside) in
            ap (λ xs. get_or xs (half_slot polygons v (get_or items i 0)) Smooth) written ∙ ap (λ n. get_or (set before slot half) n Smooth) (sym at) ∙ get_or-set_same before slot half Smooth room ∙ made

        at-place : (k : ℕ) → k < i + 1 → k < length items → (b : Bool) → nat_eq (half_slot polygons v (get_or items k 0)) slot ≡ b → IsHalfPut t.level after v (get_or items k 0)
        at-place k less within true same =
            let both = one-slot v v (get_or items k 0) (get_or items i 0) (ends-there k within) (ends-there i inside) (eqb-true _ _ same ∙ at) in
            subst (IsHalfPut t.level after v) (sym both.0) here
        at-place k less within false apart =
            let differ : half_slot polygons v (get_or items k 0) ≢ slot = λ same. let yes = eq-eqb (half_slot polygons v (get_or items k 0)) slot same in absurd (cc) in
            let earlier : k ≢ i = λ same. differ (ap (λ n. half_slot polygons v (get_or items n 0)) same ∙ sym at) in
            other v (get_or items k 0) differ (put.places k (omega (arith, less, earlier)) within)

    -- all halves at the point are done
    pub point-done : (has : ℕ → Bool) (i : ℕ) (halves : List Sharpness) → length items ≤ i → chaikin_overflows_at t.level v ≡ false → AreHalvesPut t has v i halves → AreHalvesPut t has (v + 1) 0 halves
    point-done has i halves all fine put = record {
      count = put.count;
      fine = λ u less own. fine-at u less own (nat_eq u v) refl;
      points = λ u e less own there ends. put-at u e less own there ends (nat_eq u v) refl;
      places = λ k less. absurd (omega arith);
    }
      where
        before : (u : ℕ) → u < v + 1 → nat_eq u v ≡ false → u < v
        before u less apart = let differ : u ≢ v = λ same. let yes = eq-eqb u v same in absurd (cc) in omega (arith, less, differ)

        fine-at : (u : ℕ) → u < v + 1 → has u ≡ true → (b : Bool) → nat_eq u v ≡ b → chaikin_overflows_at t.level u ≡ false
        fine-at u less own true same = ap (chaikin_overflows_at t.level) (eqb-true u v same) ∙ fine
        fine-at u less own false apart = put.fine u (before u less apart) own

        put-at : (u e : ℕ) → u < v + 1 → has u ≡ true → e < length (edges_of polygons) → has_end u (edge_at polygons e) ≡ true → (b : Bool) → nat_eq u v ≡ b → IsHalfPut t.level halves u e
        put-at u e less own there ends true same =
            let one = eqb-true u v same in
            let found = among-at e items (edges-all t v e is low there (ap (λ n. has_end n (edge_at polygons e)) (sym one) ∙ ends)) in
            subst (λ n. IsHalfPut t.level halves n e) (sym one) (subst (IsHalfPut t.level halves v) found.2 (put.places found.0 (omega (arith, found.1, all)) found.1))
        put-at u e less own there ends false apart = put.points u e (before u less apart) own there ends

-- a point that the part does not have is passed over
pub point-passed : (t : Topology) (has : ℕ → Bool) (v : ℕ) (halves : List Sharpness) → has v ≡ false → AreHalvesPut t has v 0 halves → AreHalvesPut t has (v + 1) 0 halves
point-passed t has v halves none put = record {
  count = put.count;
  fine = λ u less own. put.fine u (before u less own) own;
  points = λ u e less own there ends. put.points u e (before u less own) own there ends;
  places = λ k less. absurd (omega arith);
}
  where
    before : (u : ℕ) → u < v + 1 → has u ≡ true → u < v
    before u less own =
        let differ : u ≢ v = λ same. let yes = ap has same in absurd (cc) in
        omega (arith, less, differ)
