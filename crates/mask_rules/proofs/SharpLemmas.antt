-- A vertex whose edges of one face are infinitely sharp has a mean for its mask, and refuses a weight in every order.
use Rattle.std.proofs.Common.{◌≡◌, ℕ, ◌<◌, Bool, true, false, not, ◌||◌, if◌then◌else◌, length, map, get_or, refl, ap, sym, subst, ◌∙◌}
use Rattle.std.proofs.lemmas.List.{get_or-map, get_or_default}
use Rattle.std.proofs.lemmas.List.Sums.{list_all-from_AllPass}
use Rattle.subdiv_model.specs.Edges.{edges_of, has_end, is_boundary}
use Rattle.subdiv_model.specs.Sharpness.{Sharpness, Smooth, Infinite, uniform_child}
use Rattle.subdiv_model.specs.Level.{Level, edge_sharpness_of, vertex_sharpness_of, edges_at, ring_at}
use Rattle.subdiv_model.specs.Rule.{child_ring, vertex_rule, is_smooth_or_dart}
use Rattle.subdiv_model.specs.Mask.{CatmullClark, vertex_mask, is_mean, is_interior, rule_at, child_rule_at}
use Rattle.sharpness_laws.proofs.ProperLemmas.{proper-at, proper-well_formed}
use Rattle.subdiv_model.specs.Feature.{is_infinite}
use Rattle.mask_laws.specs.SharpBoundary.{has_sharp_boundary}
use Rattle.mask_laws.proofs.BoundaryRuleLemmas.{interior-now, interior-next}
use Rattle.mask_laws.proofs.VertexLemmas.{mean-vertex_mask}
use Rattle.level_topology.specs.Topology.{Topology, IsTopology, edge_at}
use Rattle.level_topology.proofs.LawLemmas.{own-number}
use Rattle.level_topology.proofs.PlaceLemmas.{filter-item}
use Rattle.mask_rules.specs.Around.{HasSharpBoundaryAt}
use Rattle.mask_rules.proofs.AroundLemmas.{map-same}

-- the same level, with all edges infinitely sharp that do not end at a point
module _ (level : Level) (v : ℕ) where
  sharper : ℕ × ℕ → Sharpness
  sharper edge = if has_end v edge then edge_sharpness_of level edge else Infinite

  abbrev sharpened : Level
  sharpened = record level { edge_sharpness = map sharper (edges_of level.polygons) }

  sharpened-at : (j : ℕ) → j < length (edges_of level.polygons) → edge_sharpness_of sharpened (edge_at level.polygons j) ≡ sharper (edge_at level.polygons j)
  sharpened-at j inside =
      ap (λ n. get_or (map sharper (edges_of level.polygons)) n Smooth) (own-number level.polygons j inside)
      ∙ get_or-map sharper (edges_of level.polygons) j (0, 0) Smooth inside

  sharper-there : (edge : ℕ × ℕ) → has_end v edge ≡ true → sharper edge ≡ edge_sharpness_of level edge
  unfolding sharper
  sharper-there edge h = ap (λ b. if b then edge_sharpness_of level edge else Infinite) h

  sharper-elsewhere : (edge : ℕ × ℕ) → has_end v edge ≡ false → sharper edge ≡ Infinite
  unfolding sharper
  sharper-elsewhere edge h = ap (λ b. if b then edge_sharpness_of level edge else Infinite) h

  ring-same : ring_at sharpened v ≡ ring_at level v
  ring-same = map-same (edge_sharpness_of sharpened) (edge_sharpness_of level) (0, 0) (edges_at level v) (λ k h.
      let found = filter-item (has_end v) (0, 0) (edges_of level.polygons) k h in
      ap (edge_sharpness_of sharpened) found.2 ∙ sharpened-at found.0 found.1 ∙ sharper-there (edge_at level.polygons found.0) found.3 ∙ ap (edge_sharpness_of level) (sym found.2))

  sharp-boundary : HasSharpBoundaryAt level v → has_sharp_boundary sharpened ≡ true
  sharp-boundary sharp =
      list_all-from_AllPass (λ edge. not (is_boundary level.polygons edge) || is_infinite (edge_sharpness_of sharpened edge)) (edges_of level.polygons) (λ k d h.
      subst (λ edge. (not (is_boundary level.polygons edge) || is_infinite (edge_sharpness_of sharpened edge)) ≡ true) (get_or_default (edges_of level.polygons) k (0, 0) d h)
      (rw (sharpened-at k h) (either k h (is_boundary level.polygons (edge_at level.polygons k)) refl (has_end v (edge_at level.polygons k)) refl)))
    where
      either : (k : ℕ) → k < length (edges_of level.polygons) → (b : Bool) → is_boundary level.polygons (edge_at level.polygons k) ≡ b
          → (c : Bool) → has_end v (edge_at level.polygons k) ≡ c
          → (not (is_boundary level.polygons (edge_at level.polygons k)) || is_infinite (sharper (edge_at level.polygons k))) ≡ true
      either k h false e c f = rw e refl
      either k h true e true f =
          let infinite : edge_sharpness_of level (edge_at level.polygons k) ≡ Infinite =
          ap (λ n. get_or level.edge_sharpness n Smooth) (own-number level.polygons k h) ∙ sharp k h f e in
          rw (e, sharper-there (edge_at level.polygons k) f, infinite) refl
      either k h true e false f = rw (e, sharper-elsewhere (edge_at level.polygons k) f) refl

module _ (t : Topology) (v : ℕ) (is : IsTopology t) (sharp : HasSharpBoundaryAt t.level v) where
  now : is_smooth_or_dart (rule_at t.level v) ≡ true → is_interior t.level v ≡ true
  now h =
      interior-now (sharpened t.level v) is.simple is.sides_once (sharp-boundary t.level v sharp) v
      (ap (λ ring. is_smooth_or_dart (vertex_rule (vertex_sharpness_of t.level v) ring)) (ring-same t.level v) ∙ h)

  next : is_smooth_or_dart (child_rule_at t.level v) ≡ true → is_interior t.level v ≡ true
  next h =
      interior-next (sharpened t.level v) is.simple is.sides_once (sharp-boundary t.level v sharp) v
      (ap (λ ring. is_smooth_or_dart (vertex_rule (uniform_child (vertex_sharpness_of t.level v)) (child_ring t.level.method ring))) (ring-same t.level v) ∙ h)

  pub vertex-mean : is_mean (vertex_mask t.level CatmullClark v) ≡ true
  vertex-mean = mean-vertex_mask t.level v (proper-at t.level (proper-well_formed t.level is.formed) v) now next
