-- Each mask of a manifold with a sharp boundary is a mean of points and faces of the level.
use Rattle.std.proofs.Common.{◌≡◌, ℕ, ◌<◌, ◌≤◌, Bool, true, false, not, ◌||◌, nat_le, nat_lt, nat_eq, List, [], ◌∷◌, ◌++◌, length, map, arith, refl, ap, ◌∙◌, ℤ, IsTrue}
use Rattle.std.specs.List.{list_all, range_with_len}
use Rattle.std.proofs.lemmas.Bool.{and_from, and_parts, cond_both, lt-ltb, leb-true, eqb-true}
use Rattle.std.proofs.lemmas.List.Folds.{list_all-map}
use Rattle.subdiv_model.specs.Polygons.{is_over, is_distinct, polygon_at, has_edge, has_corner}
use Rattle.subdiv_model.specs.Edges.{all_sides, edges_of, faces_of_edge, has_end, is_boundary}
use Rattle.subdiv_model.specs.Manifold.{IsManifold, is_simple}
use Rattle.subdiv_model.specs.Sharpness.{Infinite, uniform_child, is_proper_sharpness}
use Rattle.subdiv_model.specs.Level.{Level, is_well_formed, edge_sharpness_of, vertex_sharpness_of, ring_at, edges_at, faces_at}
use Rattle.subdiv_model.specs.Rule.{child_ring}
use Rattle.subdiv_model.specs.Mask.{Scheme, CatmullClark, Linear, weigh_points, ends_at, other_end, is_mean, mask_of_edge, face_mask, edge_mask, vertex_mask, is_source_of, is_mean_of, has_means}
use Rattle.subdiv_model.specs.Child.{child_level, refined_level}
use Rattle.subdiv_model.specs.Refined.{AreTranslatedBy, refined_values, control_values, translated_controls}
use Rattle.mesh_laws.proofs.ChildCountLemmas.{is_inside, sides-inside}
use Rattle.mesh_laws.proofs.ClosedLemmas.{all-at, first_named-all}
use Rattle.mesh_laws.proofs.Laws.{all-simple}
use Rattle.number_laws.proofs.CountLemmas.{all-weaker}
use Rattle.mask_laws.proofs.ListLemmas.{all-kept, all-range, all-append, places-below}
use Rattle.mask_laws.proofs.SourceLemmas.{from-mask_of, from-points, from-sharp, from-corner, from-edge, from-vertex}
use Rattle.mask_laws.proofs.ValueLemmas.{refined-moved_by}
use Rattle.mask_laws.proofs.MaskLemmas.{mean-corners, mean-corner, mean-sharp_edge, mean-edge_mask}
use Rattle.mask_laws.proofs.VertexLemmas.{mean-vertex_mask}
use Rattle.subdiv_model.specs.Feature.{is_infinite}
use Rattle.mask_laws.specs.SharpBoundary.{has_sharp_boundary}
use Rattle.mask_laws.proofs.BoundaryLemmas.{IsSharpAtBoundary, sharp-at, sharp-child, sharp-levels, is-infinite, boundary-base}
use Rattle.mask_laws.proofs.BoundaryRuleLemmas.{interior-now, interior-next}
use Rattle.mesh_laws.proofs.PointLemmas.{one-or-two}
use Rattle.subdiv_model.specs.ObjMesh.{ObjMesh, has_faces_over_points}
use Rattle.subdiv_model.specs.Base.{base_level}
use Rattle.sharpness_laws.proofs.ProperLemmas.{IsProper, proper-at, proper-well_formed}
use Rattle.level_laws.proofs.WellFormedLemmas.{levels-well-formed, first-of-six}
use Rattle.level_laws.proofs.BaseLemmas.{base-well-formed}

module _ (level : Level) (is : IsSharpAtBoundary level) (proper : IsProper level) where
  edges-inside : list_all (is_inside level.point_count) (edges_of level.polygons) ≡ true
  edges-inside =
      first_named-all (is_inside level.point_count) (all_sides level.polygons) (sides-inside level.point_count level.polygons is.over)

  ends-inside : (v : ℕ) → list_all (λ e. nat_lt e level.point_count) (ends_at level v) ≡ true
  ends-inside v =
      list_all-map (λ e. nat_lt e level.point_count) (other_end v) (edges_at level v)
      ∙ all-weaker (is_inside level.point_count) (λ edge. nat_lt (other_end v edge) level.point_count) inside (edges_at level v)
      (all-kept (has_end v) (is_inside level.point_count) (edges_of level.polygons) edges-inside)
    where
      inside : (edge : ℕ × ℕ) → is_inside level.point_count edge ≡ true → nat_lt (other_end v edge) level.point_count ≡ true
      inside edge h =
          let parts = and_parts (nat_lt edge.0 level.point_count) (nat_lt edge.1 level.point_count) h in
          cond_both (nat_eq v edge.0) edge.1 edge.0 (λ n. nat_lt n level.point_count ≡ true) (λ _. parts.1) (λ _. parts.0)

  vertex-mean : (scheme : Scheme) (v : ℕ) → v < level.point_count → is_mean_of level (vertex_mask level scheme v) ≡ true
  vertex-mean CatmullClark v below =
      let own : nat_lt v level.point_count ≡ true = lt-ltb v level.point_count below in
      let first : nat_lt 0 level.point_count ≡ true = lt-ltb 0 level.point_count (omega arith) in
      let vertex = vertex_sharpness_of level v in
      let ring = ring_at level v in
      and_from _ _
      (mean-vertex_mask level v (proper-at level proper v) (interior-now level is.simple is.distinct is.sharp v)
      (interior-next level is.simple is.distinct is.sharp v))
      (from-vertex (is_source_of level) vertex (uniform_child vertex) ring (child_ring level.method ring) v (ends_at level v) (faces_at level v)
      own first (ends-inside v) (places-below (has_corner v) 0 (length level.polygons) level.polygons (omega arith)))
  vertex-mean Linear v below =
      and_from _ _ (mean-corner v) (from-corner (is_source_of level) v (lt-ltb v level.point_count below))

  face-mean : (f : ℕ) → f < length level.polygons → is_mean_of level (face_mask level f) ≡ true
  face-mean f below =
      let polygon = polygon_at level.polygons f in
      let simple : is_simple polygon ≡ true = all-at is_simple level.polygons f [] below is.simple in
      let long : 3 ≤ length polygon = leb-true 3 (length polygon) (and_parts (nat_le 3 (length polygon)) (is_distinct polygon) simple).0 in
      let inside : list_all (λ v. nat_lt v level.point_count) polygon ≡ true =
      all-at (list_all (λ v. nat_lt v level.point_count)) level.polygons f [] below is.over in
      and_from _ _ (mean-corners polygon (omega arith))
      (from-mask_of (is_source_of level) (weigh_points 1 polygon) (length polygon) (from-points (is_source_of level) 1 polygon inside))

  -- an edge of one face is infinitely sharp, and has the mean of its ends; all others have two faces
  edge-mean : (edge : ℕ × ℕ) → (is_boundary level.polygons edge || nat_eq (length (faces_of_edge level.polygons edge)) 2) ≡ true
      → (not (is_boundary level.polygons edge) || is_infinite (edge_sharpness_of level edge)) ≡ true
      → is_mean (edge_mask level CatmullClark edge) ≡ true
  edge-mean edge count sharp = here (is_boundary level.polygons edge) count sharp
    where
      here : (b : Bool) → (b || nat_eq (length (faces_of_edge level.polygons edge)) 2) ≡ true
          → (not b || is_infinite (edge_sharpness_of level edge)) ≡ true → is_mean (edge_mask level CatmullClark edge) ≡ true
      here true h k =
          ap (λ s. is_mean (mask_of_edge s edge (faces_of_edge level.polygons edge))) (is-infinite (edge_sharpness_of level edge) k)
          ∙ mean-sharp_edge edge
      here false h k = mean-edge_mask level CatmullClark edge (eqb-true _ _ h)

  edge-sound : (scheme : Scheme) (edge : ℕ × ℕ) → is_inside level.point_count edge ≡ true
      → is_mean (edge_mask level CatmullClark edge) ≡ true → is_mean_of level (edge_mask level scheme edge) ≡ true
  edge-sound CatmullClark edge h mean =
      let parts = and_parts (nat_lt edge.0 level.point_count) (nat_lt edge.1 level.point_count) h in
      and_from _ _ mean
      (from-edge (is_source_of level) (edge_sharpness_of level edge) edge (faces_of_edge level.polygons edge) parts.0 parts.1
      (places-below (has_edge edge) 0 (length level.polygons) level.polygons (omega arith)))
  edge-sound Linear edge h mean =
      let parts = and_parts (nat_lt edge.0 level.point_count) (nat_lt edge.1 level.point_count) h in
      and_from _ _ (mean-sharp_edge edge) (from-sharp (is_source_of level) edge parts.0 parts.1)

  edge-means : (scheme : Scheme) (edges : List (ℕ × ℕ)) → list_all (is_inside level.point_count) edges ≡ true
      → list_all (λ e. is_boundary level.polygons e || nat_eq (length (faces_of_edge level.polygons e)) 2) edges ≡ true
      → list_all (λ e. not (is_boundary level.polygons e) || is_infinite (edge_sharpness_of level e)) edges ≡ true
      → list_all (is_mean_of level) (map (edge_mask level scheme) edges) ≡ true
  edge-means scheme [] h count sharp = refl
  edge-means scheme (edge ∷ edges) h count sharp =
      let inside = and_parts (is_inside level.point_count edge) (list_all (is_inside level.point_count) edges) h in
      let counts =
      and_parts (is_boundary level.polygons edge || nat_eq (length (faces_of_edge level.polygons edge)) 2)
      (list_all (λ e. is_boundary level.polygons e || nat_eq (length (faces_of_edge level.polygons e)) 2) edges) count in
      let sharps =
      and_parts (not (is_boundary level.polygons edge) || is_infinite (edge_sharpness_of level edge))
      (list_all (λ e. not (is_boundary level.polygons e) || is_infinite (edge_sharpness_of level e)) edges) sharp in
      and_from _ _ (edge-sound scheme edge inside.0 (edge-mean edge counts.0 sharps.0)) (edge-means scheme edges inside.1 counts.1 sharps.1)

  pub all-means : (scheme : Scheme) → has_means level scheme ≡ true
  all-means scheme =
      let vertices = map (vertex_mask level scheme) (range_with_len 0 level.point_count) in
      let faces = map (face_mask level) (range_with_len 0 (length level.polygons)) in
      let edges = map (edge_mask level scheme) (edges_of level.polygons) in
      all-append (is_mean_of level) vertices (faces ++ edges)
      (list_all-map (is_mean_of level) (vertex_mask level scheme) (range_with_len 0 level.point_count)
      ∙ all-range (λ v. is_mean_of level (vertex_mask level scheme v)) 0 level.point_count (λ v low high. vertex-mean scheme v (omega arith)))
      (all-append (is_mean_of level) faces edges
      (list_all-map (is_mean_of level) (face_mask level) (range_with_len 0 (length level.polygons))
      ∙ all-range (λ f. is_mean_of level (face_mask level f)) 0 (length level.polygons) (λ f low high. face-mean f (omega arith)))
      (edge-means scheme (edges_of level.polygons) edges-inside (one-or-two level.polygons is.simple is.distinct) is.sharp))

sharp-manifold : (level : Level) → is_over level.point_count level.polygons ≡ true → IsManifold level.point_count level.polygons
    → has_sharp_boundary level ≡ true → IsSharpAtBoundary level
sharp-manifold level over is sharp = record {
  over = over;
  simple = all-simple level.point_count level.polygons is;
  distinct = is.sides_once;
  sharp = sharp;
}

-- at every level of a manifold with a sharp boundary
pub means-levels : (level : Level) (scheme : Scheme) (k : ℕ) → IsTrue (is_well_formed level) → IsManifold level.point_count level.polygons
    → IsTrue (has_sharp_boundary level) → IsTrue (has_means (refined_level level k) scheme)
means-levels level scheme k formed is sharp =
    let here = refined_level level k in
    let over = first-of-six (is_over level.point_count level.polygons) _ _ _ _ _ formed in
    all-means here (sharp-levels level k (sharp-manifold level over is sharp))
    (proper-well_formed here (levels-well-formed level k formed)) scheme

-- the masks of every manifold mesh are means
pub means-meshes : (mesh : ObjMesh) (scheme : Scheme) (k : ℕ) → IsManifold (length mesh.points) mesh.faces
    → IsTrue (has_faces_over_points mesh) → IsTrue (list_all (λ crease. is_proper_sharpness crease.1) mesh.creases)
    → IsTrue (list_all (λ tag. is_proper_sharpness tag.1) mesh.corner_tags) → IsTrue (has_means (refined_level (base_level mesh) k) scheme)
means-meshes mesh scheme k is over creases corners =
    means-levels (base_level mesh) scheme k (base-well-formed mesh over creases corners) is (boundary-base mesh is)

pub child-sharp : (level : Level) → IsTrue (is_over level.point_count level.polygons) → IsManifold level.point_count level.polygons
    → IsTrue (has_sharp_boundary level) → IsTrue (has_sharp_boundary (child_level level))
child-sharp level over is sharp =
    (sharp-child level (sharp-manifold level over is sharp)).sharp

pub boundary-meshes : (mesh : ObjMesh) (k : ℕ) (edge : ℕ × ℕ) → IsManifold (length mesh.points) mesh.faces
    → IsTrue (has_faces_over_points mesh) → IsTrue (is_boundary (refined_level (base_level mesh) k).polygons edge)
    → edge_sharpness_of (refined_level (base_level mesh) k) edge ≡ Infinite
boundary-meshes mesh k edge is over on_boundary =
    let here = sharp-levels (base_level mesh) k (sharp-manifold (base_level mesh) over is (boundary-base mesh is)) in
    is-infinite (edge_sharpness_of (refined_level (base_level mesh) k) edge)
    (sharp-at (refined_level (base_level mesh) k) here.simple here.sharp edge on_boundary)

pub moved-levels : (level : Level) (scheme : Scheme) (controls : List ℤ) (t : ℤ) (k : ℕ) → length controls ≡ level.point_count
    → IsTrue (is_well_formed level) → IsManifold level.point_count level.polygons → IsTrue (has_sharp_boundary level)
    → AreTranslatedBy t (refined_values level scheme (control_values controls) k)
    (refined_values level scheme (control_values (translated_controls t controls)) k)
moved-levels level scheme controls t k count formed is sharp =
    refined-moved_by level scheme controls t k count (λ j below. means-levels level scheme j formed is sharp)

pub moved-meshes : (mesh : ObjMesh) (scheme : Scheme) (controls : List ℤ) (t : ℤ) (k : ℕ) → length controls ≡ length mesh.points
    → IsManifold (length mesh.points) mesh.faces → IsTrue (has_faces_over_points mesh)
    → IsTrue (list_all (λ crease. is_proper_sharpness crease.1) mesh.creases)
    → IsTrue (list_all (λ tag. is_proper_sharpness tag.1) mesh.corner_tags)
    → AreTranslatedBy t (refined_values (base_level mesh) scheme (control_values controls) k)
    (refined_values (base_level mesh) scheme (control_values (translated_controls t controls)) k)
moved-meshes mesh scheme controls t k count is over creases corners =
    moved-levels (base_level mesh) scheme controls t k count (base-well-formed mesh over creases corners) is (boundary-base mesh is)
