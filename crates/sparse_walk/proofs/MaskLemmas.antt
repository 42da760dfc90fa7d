-- The mask of each point of the next sparse level can be had.
use Rattle.std.proofs.Common.{◌≡◌, ℕ, ◌-◌, ◌<◌, ◌≤◌, ◌⊎◌, inl, inr, Bool, true, false, nat_eq, nat_lt, [], ◌∷◌, length, map, get_or, arith, refl, ap, sym, ◌∙◌, subst, IsTrue}
use Rattle.std.proofs.lemmas.Bool.{lt-ltb}
use Rattle.std.proofs.lemmas.Bool.Decides.{nat_tests}
use Rattle.std.proofs.lemmas.List.{length-map}
use Rattle.subdiv_model.specs.Polygons.{is_among}
use Rattle.subdiv_model.specs.Edges.{edges_of, edge_number, faces_of_edge, has_end, is_boundary}
use Rattle.subdiv_model.specs.Sharpness.{Smooth}
use Rattle.subdiv_model.specs.Mask.{CatmullClark}
use Rattle.subdiv_model.specs.Feature.{FaceFacts}
use Rattle.subdiv_model.specs.Sparse.{is_on}
use Rattle.mesh_laws.proofs.EdgeLemmas.{position-within}
use Rattle.part_laws.specs.Parts.{is_corner}
use Rattle.part_laws.proofs.ChildLemmas.{IsNew, kind}
use Rattle.level_topology.specs.Topology.{IsTopology, edge_at}
use Rattle.level_topology.specs.Child.{FromVertex, FromEdge, ChildTopology}
use Rattle.level_topology.specs.ChildTables.{numbered_origin}
use Rattle.level_topology.proofs.LawLemmas.{edge-few}
use Rattle.mask_rules.specs.Masks.{is_at_least_one}
use Rattle.child_masks.specs.Masks.{has_origin, CanRefine}
use Rattle.sparse_laws.specs.NextSparse.{next_points, vertices_of}
use Rattle.sparse_laws.specs.Laws.{SparseRefinement, AgreeingTest, HasSharpBoundary}
use Rattle.sparse_laws.proofs.SelectedLemmas.{among-all}
use Rattle.sparse_laws.proofs.BoundaryLemmas.{sharp-at-complete}
use Rattle.sparse_laws.proofs.CornerLemmas.{vertices-old}
use Rattle.sparse_laws.proofs.CompleteLemmas.{kids}
use Rattle.sparse_laws.proofs.NextPartLemmas.{points-own}
use Rattle.sparse_laws.proofs.NextSparseLemmas.{selection}
use Rattle.sparse_level.specs.View.{SparseTopology, SparseChild, level_of}
use Rattle.sparse_refiner.specs.Refined.{IsRefined, SparseOf, chosen}
use Rattle.sparse_walk.proofs.OriginLemmas.{IsAtEdge, comes-from, vertex-number, edge-number}
use Rattle.sparse_walk.proofs.OnLemmas.{on-complete, vertex-on}

-- one of the two ends of an edge
end-among : (w : ℕ) (edge : ℕ × ℕ) → is_among (edge.0 ∷ edge.1 ∷ []) w ≡ true → has_end w edge ≡ true
end-among w edge h = grind (arith, nat_tests)

one-among : (w n : ℕ) → is_among (n ∷ []) w ≡ true → w ≡ n
one-among w n h = grind (arith, nat_tests)

-- an edge of one face or two that has not one
two-faces : (n : ℕ) → nat_eq n 1 ≡ false → 1 ≤ n → n ≤ 2 → n ≡ 2
two-faces n h low high = grind (arith, nat_tests)

module _ (test : FaceFacts → Bool) (t : SparseTopology) (of : SparseOf test t) where
  -- the level as one of the definitions, and the test that selects
  abbrev pub kept : SparseRefinement
  kept = record { base = of.base; predicate = of.predicate; sparse = level_of t; over = of.over; is = of.is }

  abbrev pub by : AgreeingTest kept
  by = record { test = test; agrees = of.agrees }

  module _ (step : SparseChild) (refined : IsRefined test t step) where
    origins-are : step.child.origins ≡ map (numbered_origin t.topology.level.point_count (length t.topology.level.polygons)) (next_points t.topology.level (chosen test t))
    origins-are = ap (λ (c : ChildTopology). c.origins) refined.of

    -- a vertex that has a point there lies on a selected face
    vertex-of : (v : ℕ) → has_origin step.child.origins (FromVertex v) ≡ true → (v < t.topology.level.point_count) × (is_on t.topology.level.polygons (chosen test t) v ≡ true)
    vertex-of v h =
        let level = t.topology.level in
        let from = comes-from level.point_count (length level.polygons) (next_points level (chosen test t)) (FromVertex v) (ap (λ origins. has_origin origins (FromVertex v)) (sym origins-are) ∙ h) in
        let number = vertex-number level.point_count (length level.polygons) from.n v from.same in
        let at = vertex-on kept by from.n from.among in
        let same : at.w ≡ from.n = one-among at.w from.n (ap (λ ns. is_among ns at.w) (sym (vertices-old level of.is.over from.n number.0)) ∙ at.among) in
        (subst (λ n. n < level.point_count) number.1 number.0, ap (is_on level.polygons (chosen test t)) (sym number.1 ∙ sym same) ∙ at.on)

    -- an edge that has a point there has an end on a selected face
    record HasEndOn (e : ℕ) : Type 0 where
      exists : e < length (edges_of t.topology.level.polygons)
      w : ℕ
      end : has_end w (edge_at t.topology.level.polygons e) ≡ true
      on : is_on t.topology.level.polygons (chosen test t) w ≡ true

    edge-of : (e : ℕ) → has_origin step.child.origins (FromEdge e) ≡ true → HasEndOn e
    edge-of e h =
        let level = t.topology.level in
        let polygons = level.polygons in
        let points = next_points level (chosen test t) in
        let s = selection kept by in
        let from = comes-from level.point_count (length polygons) points (FromEdge e) (ap (λ origins. has_origin origins (FromEdge e)) (sym origins-are) ∙ h) in
        let number = edge-number level.point_count (length polygons) from.n e from.same in
        let at = vertex-on kept by from.n from.among in
        let no_vertex = number.no_vertex in
        let no_face = number.no_face in
        let ends : vertices_of level from.n ≡ (edge_at polygons (from.n - level.point_count - length polygons)).0 ∷ (edge_at polygons (from.n - level.point_count - length polygons)).1 ∷ [] = rw (no_vertex, no_face) refl in
        let among : is_among ((edge_at polygons e).0 ∷ (edge_at polygons e).1 ∷ []) at.w ≡ true =
        ap (λ k. is_among ((edge_at polygons k).0 ∷ (edge_at polygons k).1 ∷ []) at.w) (sym number.number) ∙ ap (λ ns. is_among ns at.w) (sym ends) ∙ at.among in
        record {
          exists = inside from.n number (kind level.point_count polygons of.is.over from.n (among-all (is_corner (kids s)) points from.n from.among (points-own s)));
          w = at.w;
          end = end-among at.w (edge_at polygons e) among;
          on = at.on;
        }
      where
        inside : (n : ℕ) → IsAtEdge t.topology.level.point_count (length t.topology.level.polygons) n e → IsNew t.topology.level.point_count t.topology.level.polygons n
            → e < length (edges_of t.topology.level.polygons)
        inside n number (inl a) = let below = lt-ltb n t.topology.level.point_count a.0 in absurd (cc (below, number.no_vertex))
        inside n number (inr (inl (k, h, same))) =
            let back : n - t.topology.level.point_count ≡ k = omega (arith, same) in
            let below : nat_lt (n - t.topology.level.point_count) (length t.topology.level.polygons) ≡ true = ap (λ m. nat_lt m (length t.topology.level.polygons)) back ∙ lt-ltb k (length t.topology.level.polygons) h in
            absurd (cc (below, number.no_face))
        inside n number (inr (inr (edge, listed, same))) =
            let back : n - t.topology.level.point_count - length t.topology.level.polygons ≡ edge_number t.topology.level.polygons edge = omega (arith, same) in
            omega (arith, back, number.number, position-within edge (edges_of t.topology.level.polygons) listed)

    -- each mask can be had
    pub can-refine : HasSharpBoundary of.base → IsTopology t.topology → CanRefine t.topology step.child CatmullClark
    can-refine boundary is = record {
      vertices = ap (λ (c : ChildTopology). c.parent_points) refined.of;
      faces = ap (λ (c : ChildTopology). length c.parent_sizes) refined.of ∙ length-map t.topology.level.polygons length;
      edges = ap (λ (c : ChildTopology). c.parent_edges) refined.of;
      complete = λ v h. on-complete kept by v (vertex-of v h).1;
      inside = λ same e h. inside e (edge-of e h);
      boundary = λ same v h e within ends one-face. sharp-at-complete kept e v boundary (on-complete kept by v (vertex-of v h).1) within ends one-face;
      fine = λ same v h. refined.fine v (vertex-of v h).0 (vertex-of v h).1;
    }
      where
        inside : (e : ℕ) → HasEndOn e
            → (length (faces_of_edge t.topology.level.polygons (edge_at t.topology.level.polygons e)) ≡ 2) ⊎ IsTrue (is_at_least_one (get_or t.topology.level.edge_sharpness e Smooth))
        inside e at = go (is_boundary t.topology.level.polygons (edge_at t.topology.level.polygons e)) refl (edge-few t.topology e is at.exists)
          where
            go : (b : Bool) → is_boundary t.topology.level.polygons (edge_at t.topology.level.polygons e) ≡ b
                → (1 ≤ length (faces_of_edge t.topology.level.polygons (edge_at t.topology.level.polygons e))) × (length (faces_of_edge t.topology.level.polygons (edge_at t.topology.level.polygons e)) ≤ 2)
                → (length (faces_of_edge t.topology.level.polygons (edge_at t.topology.level.polygons e)) ≡ 2) ⊎ IsTrue (is_at_least_one (get_or t.topology.level.edge_sharpness e Smooth))
            go true one-face few = inr (ap is_at_least_one (sharp-at-complete kept e at.w boundary (on-complete kept by at.w at.on) at.exists at.end one-face))
            go false one-face few = inl (two-faces (length (faces_of_edge t.topology.level.polygons (edge_at t.topology.level.polygons e))) one-face few.0 few.1)
