-- No mask has a source in two terms, since each is made by joining terms.
use Rattle.std.proofs.Common.{◌≡◌, ℕ, true, nat_lt, List, [], ◌∷◌, ◌++◌, length, map, get_or}
use Rattle.std.specs.List.{list_all, range_with_len}
use Rattle.std.proofs.lemmas.Bool.{and_parts}
use Rattle.subdiv_model.specs.Edges.{edges_of, faces_of_edge}
use Rattle.subdiv_model.specs.Level.{Level, edge_sharpness_of, vertex_sharpness_of, ring_at, faces_at}
use Rattle.subdiv_model.specs.Sharpness.{uniform_child}
use Rattle.subdiv_model.specs.Rule.{child_ring}
use Rattle.subdiv_model.specs.Mask.{Scheme, CatmullClark, Linear, OfPoint, Term, Mask, mask_of, weigh, weigh_points, has_distinct_sources, ends_at, vertex_mask, face_mask, edge_mask, has_distinct_masks}
use Rattle.sharpness_laws.specs.SameWeights.{is_joined}
use Rattle.sharpness_laws.proofs.ProperLemmas.{all-mapped}
use Rattle.sharpness_laws.proofs.MaskValueLemmas.{joined-mask_of, joined-corners, joined-edge, joined-vertex}
use Rattle.mask_laws.proofs.ListLemmas.{all-append}

distinct-from : (mask : Mask) → is_joined mask ≡ true → has_distinct_sources mask.terms ≡ true
distinct-from mask h = (and_parts (has_distinct_sources mask.terms) (list_all (λ t. nat_lt 0 t.weight) mask.terms) h).0

pub distinct-joined : (terms : List Term) (q : ℕ) → has_distinct_sources (mask_of terms q).terms ≡ true
distinct-joined terms q = distinct-from (mask_of terms q) (joined-mask_of terms q)

module _ (level : Level) where
  distinct-vertex : (scheme : Scheme) (v : ℕ) → has_distinct_sources (vertex_mask level scheme v).terms ≡ true
  distinct-vertex CatmullClark v =
      let vertex = vertex_sharpness_of level v in
      let ring = ring_at level v in
      distinct-from (vertex_mask level CatmullClark v)
      (joined-vertex v (ends_at level v) (faces_at level v) vertex (uniform_child vertex) ring (child_ring level.method ring))
  distinct-vertex Linear v = distinct-joined (weigh 1 (OfPoint v) ∷ []) 1

  distinct-edge : (scheme : Scheme) (edge : ℕ × ℕ) → has_distinct_sources (edge_mask level scheme edge).terms ≡ true
  distinct-edge CatmullClark edge =
      distinct-from (edge_mask level CatmullClark edge)
      (joined-edge edge (faces_of_edge level.polygons edge) (edge_sharpness_of level edge))
  distinct-edge Linear edge = distinct-joined (weigh_points 1 (edge.0 ∷ edge.1 ∷ [])) 2

  distinct-face : (f : ℕ) → has_distinct_sources (face_mask level f).terms ≡ true
  distinct-face f = distinct-from (face_mask level f) (joined-corners (get_or level.polygons f []))

  pub all-distinct : (scheme : Scheme) → has_distinct_masks level scheme ≡ true
  all-distinct scheme =
      let test = λ (mask : Mask). has_distinct_sources mask.terms in
      let vertices = map (vertex_mask level scheme) (range_with_len 0 level.point_count) in
      let faces = map (face_mask level) (range_with_len 0 (length level.polygons)) in
      let edges = map (edge_mask level scheme) (edges_of level.polygons) in
      all-append test vertices (faces ++ edges)
      (all-mapped test (vertex_mask level scheme) (distinct-vertex scheme) (range_with_len 0 level.point_count))
      (all-append test faces edges (all-mapped test (face_mask level) distinct-face (range_with_len 0 (length level.polygons)))
      (all-mapped test (edge_mask level scheme) (distinct-edge scheme) (edges_of level.polygons)))
