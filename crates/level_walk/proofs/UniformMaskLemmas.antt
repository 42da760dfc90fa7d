-- The masks of the next level's points, by where these come from in the level.
use Rattle.std.proofs.Common.{◌≡◌, ℕ, ◌<◌, ◌≤◌, ◌⊎◌, inl, inr, Bool, true, false, nat_eq, List, length, map, get_or, replicate, arith, refl, ap, sym, ◌∙◌, IsTrue}
use Rattle.std.proofs.lemmas.Bool.Decides.{nat_tests}
use Rattle.std.proofs.lemmas.List.{get_or-replicate, length-map}
use Rattle.subdiv_model.specs.Edges.{edges_of, faces_of_edge, is_boundary}
use Rattle.subdiv_model.specs.Sharpness.{Smooth, Infinite}
use Rattle.subdiv_model.specs.Mask.{Scheme, child_masks, mask_terms}
use Rattle.subdiv_model.specs.Refined.{mask_denominator, source_denominator, child_denominators}
use Rattle.mask_laws.specs.SharpBoundary.{has_sharp_boundary}
use Rattle.mask_laws.proofs.BoundaryLemmas.{sharp-at, is-infinite}
use Rattle.level_topology.specs.Topology.{Topology, IsTopology, edge_at}
use Rattle.level_topology.specs.Child.{FromVertex, FromEdge, ChildTopology}
use Rattle.level_topology.proofs.LawLemmas.{own-number, edge-few}
use Rattle.mask_rules.specs.Masks.{is_at_least_one}
use Rattle.uniform_refiner.specs.Uniform.{origins_in}
use Rattle.uniform_refiner.specs.Refined.{IsRefined}
use Rattle.child_masks.specs.Masks.{masks_from, has_origin, step_terms, CanRefine}
use Rattle.level_walk.proofs.OriginLemmas.{masks-of-all, terms-of-all, vertex-within, edge-within}

-- an edge of one face is infinitely sharp, by its number
infinite-at : (t : Topology) → IsTopology t → has_sharp_boundary t.level ≡ true → (e : ℕ) → e < length (edges_of t.level.polygons)
    → is_boundary t.level.polygons (edge_at t.level.polygons e) ≡ true → get_or t.level.edge_sharpness e Smooth ≡ Infinite
infinite-at t is sharp e inside one_face =
    ap (λ n. get_or t.level.edge_sharpness n Smooth) (sym (own-number t.level.polygons e inside))
    ∙ is-infinite _ (sharp-at t.level is.simple sharp (edge_at t.level.polygons e) one_face)

-- an edge of one face or two that has not one
two_faces : (n : ℕ) → nat_eq n 1 ≡ false → 1 ≤ n → n ≤ 2 → n ≡ 2
two_faces n h low high = grind (arith, nat_tests)

module _ (parent : Topology) (child : ChildTopology) (refined : IsRefined parent child) where
  -- the child has all parts of the parent
  pub origins-are : child.origins ≡ origins_in parent
  origins-are = ap (λ (c : ChildTopology). c.origins) refined.uniform.of

  pub vertex-of : (v : ℕ) → IsTrue (has_origin child.origins (FromVertex v)) → v < parent.level.point_count
  vertex-of v h =
      vertex-within parent.level.point_count (length parent.level.polygons) (length (edges_of parent.level.polygons)) v
      (ap (λ origins. has_origin origins (FromVertex v)) (sym origins-are) ∙ h)

  edge-of : (e : ℕ) → IsTrue (has_origin child.origins (FromEdge e)) → e < length (edges_of parent.level.polygons)
  edge-of e h =
      edge-within parent.level.point_count (length parent.level.polygons) (length (edges_of parent.level.polygons)) e
      (ap (λ origins. has_origin origins (FromEdge e)) (sym origins-are) ∙ h)

  -- each mask of the child exists
  pub can-refine : (scheme : Scheme) → IsTopology parent → parent.complete ≡ replicate parent.level.point_count true → IsTrue (has_sharp_boundary parent.level) → CanRefine parent child scheme
  can-refine scheme is complete boundary = record {
    vertices = ap (λ (c : ChildTopology). c.parent_points) refined.uniform.of;
    faces = ap (λ (c : ChildTopology). length c.parent_sizes) refined.uniform.of ∙ length-map parent.level.polygons length;
    edges = ap (λ (c : ChildTopology). c.parent_edges) refined.uniform.of;
    complete = λ v h. ap (λ marks. get_or marks v false) complete ∙ get_or-replicate parent.level.point_count v true false (vertex-of v h);
    inside = λ same e h. inside e (edge-of e h);
    boundary = λ same v h e within ends one_face. infinite-at parent is boundary e within one_face;
    fine = λ same v h. refined.fine v (vertex-of v h);
  }
    where
      inside : (e : ℕ) → e < length (edges_of parent.level.polygons)
          → (length (faces_of_edge parent.level.polygons (edge_at parent.level.polygons e)) ≡ 2) ⊎ IsTrue (is_at_least_one (get_or parent.level.edge_sharpness e Smooth))
      inside e within = go (is_boundary parent.level.polygons (edge_at parent.level.polygons e)) refl (edge-few parent e is within)
        where
          go : (b : Bool) → is_boundary parent.level.polygons (edge_at parent.level.polygons e) ≡ b
              → (1 ≤ length (faces_of_edge parent.level.polygons (edge_at parent.level.polygons e))) × (length (faces_of_edge parent.level.polygons (edge_at parent.level.polygons e)) ≤ 2)
              → (length (faces_of_edge parent.level.polygons (edge_at parent.level.polygons e)) ≡ 2) ⊎ IsTrue (is_at_least_one (get_or parent.level.edge_sharpness e Smooth))
          go true one_face few = inr (ap is_at_least_one (infinite-at parent is boundary e within one_face))
          go false one_face few = inl (two_faces (length (faces_of_edge parent.level.polygons (edge_at parent.level.polygons e))) one_face few.0 few.1)

  -- the masks and their terms are those of the next level
  pub masks-are : (scheme : Scheme) → masks_from parent.level scheme child.origins ≡ child_masks parent.level scheme
  masks-are scheme = ap (masks_from parent.level scheme) origins-are ∙ masks-of-all parent.level scheme

  pub terms-are : (scheme : Scheme) → step_terms parent.level scheme child.origins ≡ mask_terms parent.level scheme
  terms-are scheme = ap (step_terms parent.level scheme) origins-are ∙ terms-of-all parent.level scheme

  -- the common denominators are those of the next level
  pub dens-are : (scheme : Scheme) (dens : List ℕ)
      → map (mask_denominator (source_denominator parent.level dens)) (masks_from parent.level scheme child.origins) ≡ child_denominators parent.level scheme dens
  dens-are scheme dens = ap (map (mask_denominator (source_denominator parent.level dens))) (masks-are scheme)
