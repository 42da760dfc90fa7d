-- The row of a vertex, as its lists are put.
use Rattle.std.proofs.Common.{◌≡◌, ℕ, ◌+◌, ◌<◌, Bool, true, false, nat_lt, List, [], ◌∷◌, length, map, get_or, replicate, arith, refl, ap, sym, ◌∙◌, subst}
use Rattle.std.specs.List.{All}
use Rattle.std.proofs.lemmas.Bool.Decides.{nat_tests}
use Rattle.std.proofs.lemmas.Bool.{eq-eqb}
use Rattle.std.proofs.lemmas.List.{get_or-map, length-map}
use Rattle.std.proofs.lemmas.List.Sorted.{length_permutation}
use Rattle.subdiv_model.specs.Polygons.{polygon_at, has_corner, is_among}
use Rattle.subdiv_model.specs.Edges.{edges_of, faces_of_point}
use Rattle.mesh_laws.proofs.FanLemmas.{faces-among}
use Rattle.level_topology.specs.Topology.{Topology, IsTopology, edge_at, end_of, edge_numbers_at, corner_of}
use Rattle.level_topology.specs.PointRows.{IsRow}
use Rattle.level_topology.proofs.LawLemmas.{edges-each}
use Rattle.level_topology.proofs.TurnLemmas.{empty-row, edges-none, nothing-there}
use Rattle.child_slots.specs.Slots.{first_child, half_slot}
use Rattle.child_slots.specs.Slotted.{Slotted, number_at, end_in}
use Rattle.uniform_refiner.specs.Put.{AreChildEdges}
use Rattle.child_slots.proofs.SlotLemmas.{end-low}
use Rattle.child_slots.proofs.SlotTableLemmas.{among-number}
use Rattle.uniform_refiner.proofs.WholeEdgeLemmas.{ends-all}
use Rattle.child_slots.proofs.EndLemmas.{end-has}
use Rattle.uniform_refiner.proofs.PointLemmas.{kids}
use Rattle.uniform_refiner.proofs.VertexLemmas.{kid, kid-of, some-row, half-among}

module _ (t : Topology) (is : IsTopology t) (n : Slotted) (are : AreChildEdges t.level n) (v : ℕ) (low : v < t.level.point_count) where
  -- the halves at the vertex are there
  pub half-there : (i : ℕ) → i < length (get_or t.edges_at v []) → (get_or (get_or t.edges_at v []) i 0 < length (edges_of t.level.polygons)) × (half_slot t.level.polygons v (get_or (get_or t.edges_at v []) i 0) < n.count) × (is_among n.slots (half_slot t.level.polygons v (get_or (get_or t.edges_at v []) i 0)) ≡ true)
  half-there i h =
      let e = get_or (get_or t.edges_at v []) i 0 in
      let at = edges-each t v i is low h in (
        at.exists,
        omega (arith, at.exists, are.count_is, end-low t.level.polygons v e),
        half-among t is n are v e at.exists (end-has v (end_of t.level.polygons v e) (edge_at t.level.polygons e) at.there),
      )

  -- the halves at the vertex have numbers
  pub halves-inside : (edges : List ℕ) → edges ≡ map (λ e. number_at n.slots (half_slot t.level.polygons v e)) (get_or t.edges_at v []) → All (λ e. e < length n.ends) edges
  halves-inside edges e = subst (λ xs. All (λ k. k < length n.ends) xs) (sym e) (λ i d h.
      let inside : i < length (get_or t.edges_at v []) = omega (arith, h, length-map (get_or t.edges_at v []) (λ e. number_at n.slots (half_slot t.level.polygons v e))) in
      let slot = half_slot t.level.polygons v (get_or (get_or t.edges_at v []) i 0) in
      omega (arith, get_or-map (λ e. number_at n.slots (half_slot t.level.polygons v e)) (get_or t.edges_at v []) i 0 d inside, among-number n.slots slot (half-there i inside).2, are.listed))

  module _ (whole : get_or t.complete v false ≡ true) where
    -- without a face there is nothing
    none-row : length (get_or t.faces_at v []) ≡ 0 → (at ends : List ℕ) → at ≡ [] → ends ≡ map (end_of (kids t is) v) (map (λ e. number_at n.slots (half_slot t.level.polygons v e)) (get_or t.edges_at v [])) → IsRow (kids t is) v true (map (kid t is n are v low whole) (get_or t.faces_at v [])) at (map (λ e. number_at n.slots (half_slot t.level.polygons v e)) (get_or t.edges_at v [])) ends
    none-row none at ends a e =
        let faces : get_or t.faces_at v [] ≡ [] = nothing-there _ none in
        let old : faces_of_point t.level.polygons v ≡ [] = nothing-there _ (sym (length_permutation _ _ (is.listed v low).faces) ∙ none) in
        let gone : edge_numbers_at t.level.polygons v ≡ [] = edges-none t.level.polygons v old in
        let edges : get_or t.edges_at v [] ≡ [] = nothing-there _ (length_permutation _ _ (is.listed v low).edges ∙ ap length gone) in
        let new : faces_of_point (kids t is) v ≡ [] = go (faces_of_point (kids t is) v) refl faces in
        let kid_list : map (kid t is n are v low whole) (get_or t.faces_at v []) ≡ [] = ap (map (kid t is n are v low whole)) faces in
        let half_list : map (λ e. number_at n.slots (half_slot t.level.polygons v e)) (get_or t.edges_at v []) ≡ [] = ap (map (λ e. number_at n.slots (half_slot t.level.polygons v e))) edges in
        empty-row (kids t is) v true _ at _ ends kid_list (kid_list ∙ sym new) (a ∙ sym (ap (map (corner_of (kids t is) v)) kid_list)) (half_list ∙ sym (edges-none (kids t is) v new)) e
      where
        go : (xs : List ℕ) → faces_of_point (kids t is) v ≡ xs → get_or t.faces_at v [] ≡ [] → xs ≡ []
        go [] same faces = refl
        go (x ∷ xs) same faces =
            let self = eq-eqb x x refl in
            let has : has_corner v (polygon_at (kids t is) x) ≡ true = sym (faces-among (kids t is) v x) ∙ ap (λ ks. is_among ks x) same ∙ (rw self refl) in
            let found = kid-of t is n are v low whole x has in
            let wrong : is_among [] found.0 ≡ true = ap (λ ks. is_among ks found.0) (sym faces) ∙ found.1 in
            absurd (cc)

    -- the lists as the code writes them
    pub vertex-row : (faces at edges ends : List ℕ) → faces ≡ map (λ f. first_child t.level.polygons f + corner_of t.level.polygons v f) (get_or t.faces_at v []) → at ≡ replicate (length faces) 0 → edges ≡ map (λ e. number_at n.slots (half_slot t.level.polygons v e)) (get_or t.edges_at v []) → ends ≡ map (end_in n.ends v) edges → IsRow (kids t is) v true faces at edges ends
    vertex-row faces at edges ends f a e o =
        let count : length faces ≡ length (get_or t.faces_at v []) = ap length f ∙ length-map (get_or t.faces_at v []) (kid t is n are v low whole) in
        let corners : at ≡ replicate (length (get_or t.faces_at v [])) 0 = a ∙ ap (λ k. replicate k 0) count in
        let others : ends ≡ map (end_of (kids t is) v) (map (λ e. number_at n.slots (half_slot t.level.polygons v e)) (get_or t.edges_at v [])) = o ∙ ap (λ es. map (end_in es v) edges) (ends-all t is n are) ∙ ap (map (end_of (kids t is) v)) e in
        subst (λ xs. IsRow (kids t is) v true xs at edges ends) (sym f) (subst (λ xs. IsRow (kids t is) v true (map (kid t is n are v low whole) (get_or t.faces_at v [])) at xs ends) (sym e) (go (nat_lt 0 (length (get_or t.faces_at v []))) refl corners others))
      where
        go : (b : Bool) → nat_lt 0 (length (get_or t.faces_at v [])) ≡ b → at ≡ replicate (length (get_or t.faces_at v [])) 0 → ends ≡ map (end_of (kids t is) v) (map (λ e. number_at n.slots (half_slot t.level.polygons v e)) (get_or t.edges_at v [])) → IsRow (kids t is) v true (map (kid t is n are v low whole) (get_or t.faces_at v [])) at (map (λ e. number_at n.slots (half_slot t.level.polygons v e)) (get_or t.edges_at v [])) ends
        go true some corners others = let more : 0 < length (get_or t.faces_at v []) = grind (arith, nat_tests) in some-row t is n are v low whole more at ends corners others
        go false none corners others = let nothing : length (get_or t.faces_at v []) ≡ 0 = grind (arith, nat_tests) in none-row nothing at ends (corners ∙ ap (λ k. replicate k 0) nothing) others
