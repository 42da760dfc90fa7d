-- The places of the sources of the masks of points.
use Rattle.std.proofs.Common.{◌≡◌, ℕ, zero, suc, ◌*◌, ◌<◌, Bool, true, nat_lt, nat_eq, List, [], ◌∷◌, length, map, get_or, arith, refl, ap, ◌∙◌}
use Rattle.std.specs.List.{AllByRecursion, list_all}
use Rattle.std.proofs.lemmas.Bool.{and_parts, and_from, cond_both, lt-ltb}
use Rattle.std.proofs.lemmas.List.Folds.{list_all-map}
use Rattle.subdiv_model.specs.Polygons.{polygon_at, has_corner, has_edge, is_over}
use Rattle.subdiv_model.specs.Edges.{all_sides, edges_of, has_end}
use Rattle.subdiv_model.specs.Sharpness.{uniform_child}
use Rattle.subdiv_model.specs.Rule.{child_ring}
use Rattle.subdiv_model.specs.Level.{Level, edge_sharpness_of, vertex_sharpness_of, ring_at, edges_at, faces_at}
use Rattle.subdiv_model.specs.Multiples.{lcm_of_all}
use Rattle.subdiv_model.specs.Mask.{Scheme, CatmullClark, Linear, SourcePoint, OfPoint, weigh_points, is_source_of, other_end, ends_at, face_mask}
use Rattle.subdiv_model.specs.Refined.{mask_denominator, corner_denominator, source_denominator}
use Rattle.mesh_laws.proofs.ChildCountLemmas.{is_inside, sides-inside}
use Rattle.mesh_laws.proofs.ClosedLemmas.{first_named-all}
use Rattle.mask_laws.proofs.ListLemmas.{all-kept, places-below}
use Rattle.mask_laws.proofs.JoinedLemmas.{joined-all}
use Rattle.mask_laws.proofs.SourceLemmas.{are_from, from-mask_of, from-points, from-corner, from-vertex, from-edge, from-sharp}
use Rattle.level_topology.specs.Topology.{edge_at}
use Rattle.level_topology.specs.Child.{PointOrigin, FromVertex, FromFace, FromEdge, IsOriginWithin}
use Rattle.child_masks.specs.Masks.{mask_from}

-- a test that each passes is passed at a place
pub test-at : {X : Type 0} (p : X → Bool) (xs : List X) (i : ℕ) (d : X) → list_all p xs ≡ true → i < length xs → p (get_or xs i d) ≡ true
test-at p [] i d h inside = absurd (omega arith)
test-at p (x ∷ xs) zero d h inside = (and_parts (p x) (list_all p xs) h).0
test-at p (x ∷ xs) (suc i) d h inside = test-at p xs i d (and_parts (p x) (list_all p xs) h).1 (omega arith)

-- if all pass a test, all pass a weaker one
weaker : {X : Type 0} (p q : X → Bool) → ((x : X) → p x ≡ true → q x ≡ true) → (xs : List X) → list_all p xs ≡ true → list_all q xs ≡ true
weaker p q f [] h = refl
weaker p q f (x ∷ xs) h = let parts = and_parts (p x) (list_all p xs) h in and_from _ _ (f x parts.0) (weaker p q f xs parts.1)

module _ (level : Level) (over : is_over level.point_count level.polygons ≡ true) where
  pub edges-inside : list_all (is_inside level.point_count) (edges_of level.polygons) ≡ true
  edges-inside = first_named-all (is_inside level.point_count) (all_sides level.polygons) (sides-inside level.point_count level.polygons over)

  -- the other ends of the edges at a point are points
  ends-inside : (v : ℕ) → list_all (λ e. nat_lt e level.point_count) (ends_at level v) ≡ true
  ends-inside v =
      list_all-map (λ e. nat_lt e level.point_count) (other_end v) (edges_at level v)
      ∙ weaker (is_inside level.point_count) (λ edge. nat_lt (other_end v edge) level.point_count) inside (edges_at level v)
      (all-kept (has_end v) (is_inside level.point_count) (edges_of level.polygons) edges-inside)
    where
      inside : (edge : ℕ × ℕ) → is_inside level.point_count edge ≡ true → nat_lt (other_end v edge) level.point_count ≡ true
      inside edge h =
          let parts = and_parts (nat_lt edge.0 level.point_count) (nat_lt edge.1 level.point_count) h in
          cond_both (nat_eq v edge.0) edge.1 edge.0 (λ n. nat_lt n level.point_count ≡ true) (λ _. parts.1) (λ _. parts.0)

  -- the sources of the mask of a part of the level are parts of the level
  pub mask-inside : (scheme : Scheme) (origin : PointOrigin) → IsOriginWithin level.point_count (length level.polygons) (length (edges_of level.polygons)) origin
      → are_from (is_source_of level) (mask_from level scheme origin).terms ≡ true
  mask-inside CatmullClark (FromVertex v) below =
      let vertex = vertex_sharpness_of level v in
      let ring = ring_at level v in
      from-vertex (is_source_of level) vertex (uniform_child vertex) ring (child_ring level.method ring) v (ends_at level v) (faces_at level v)
      (lt-ltb v level.point_count below) (lt-ltb 0 level.point_count (omega (arith, below))) (ends-inside v)
      (places-below (has_corner v) 0 (length level.polygons) level.polygons (omega arith))
  mask-inside Linear (FromVertex v) below = from-corner (is_source_of level) v (lt-ltb v level.point_count below)
  mask-inside scheme (FromFace f) below =
      let polygon = polygon_at level.polygons f in
      from-mask_of (is_source_of level) (weigh_points 1 polygon) (length polygon)
      (from-points (is_source_of level) 1 polygon (test-at (list_all (λ v. nat_lt v level.point_count)) level.polygons f [] over below))
  mask-inside CatmullClark (FromEdge e) below =
      let edge = edge_at level.polygons e in
      let inside = test-at (is_inside level.point_count) (edges_of level.polygons) e (0, 0) edges-inside below in
      let parts = and_parts (nat_lt edge.0 level.point_count) (nat_lt edge.1 level.point_count) inside in
      from-edge (is_source_of level) (edge_sharpness_of level edge) edge _ parts.0 parts.1
      (places-below (has_edge edge) 0 (length level.polygons) level.polygons (omega arith))
  mask-inside Linear (FromEdge e) below =
      let edge = edge_at level.polygons e in
      let inside = test-at (is_inside level.point_count) (edges_of level.polygons) e (0, 0) edges-inside below in
      let parts = and_parts (nat_lt edge.0 level.point_count) (nat_lt edge.1 level.point_count) inside in
      from-sharp (is_source_of level) edge parts.0 parts.1

-- the sources of a face's mask are points, so that its value and its denominator are those of the face
pub map-same : {X Y : Type 0} (f g : X → Y) (xs : List X) → AllByRecursion (λ x. f x ≡ g x) xs → map f xs ≡ map g xs
map-same f g [] h = refl
map-same f g (x ∷ xs) h = cons (f x) (g x) (map f xs) (map g xs) h.0 (map-same f g xs h.1)
  where
    cons : {Y : Type 0} (a b : Y) (xs ys : List Y) → a ≡ b → xs ≡ ys → a ∷ xs ≡ b ∷ ys
    cons a b xs ys e h = cc

module _ (level : Level) (f : ℕ) where
  pub corners-only : (P : SourcePoint → Type 0) → ((v : ℕ) → P (OfPoint v)) → AllByRecursion (λ t. P t.source) (face_mask level f).terms
  corners-only P each = let polygon = polygon_at level.polygons f in joined-all P (weigh_points 1 polygon) (length polygon) (points polygon)
    where
      points : (corners : List ℕ) → AllByRecursion (λ t. P t.source) (weigh_points 1 corners)
      points [] = tt
      points (v ∷ corners) = (each v, points corners)

  -- the denominator of a face's mask is that of its points
  pub corner-dens : (dens : List ℕ) → mask_denominator (corner_denominator dens) (face_mask level f) ≡ mask_denominator (source_denominator level dens) (face_mask level f)
  corner-dens dens =
      ap (λ l. (face_mask level f).denominator * lcm_of_all l)
      (map-same (λ t. corner_denominator dens t.source) (λ t. source_denominator level dens t.source) (face_mask level f).terms
      (corners-only (λ s. corner_denominator dens s ≡ source_denominator level dens s) (λ v. refl)))
