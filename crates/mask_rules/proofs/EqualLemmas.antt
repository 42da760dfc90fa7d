-- The masks of a level are joined.
use Rattle.std.proofs.Common.{◌≡◌, ℕ, true, [], ◌∷◌}
use Rattle.subdiv_model.specs.Edges.{faces_of_edge}
use Rattle.subdiv_model.specs.Sharpness.{uniform_child}
use Rattle.subdiv_model.specs.Level.{Level, edge_sharpness_of, vertex_sharpness_of, ring_at, faces_at}
use Rattle.subdiv_model.specs.Rule.{child_ring}
use Rattle.subdiv_model.specs.Mask.{Scheme, CatmullClark, Linear, OfPoint, weigh, weigh_points, edge_mask, vertex_mask, ends_at}
use Rattle.sharpness_laws.specs.SameWeights.{is_joined}
use Rattle.sharpness_laws.proofs.MaskValueLemmas.{joined-mask_of, joined-edge, joined-vertex}

pub joined-edge_mask : (level : Level) (edge : ℕ × ℕ) (scheme : Scheme) → is_joined (edge_mask level scheme edge) ≡ true
joined-edge_mask level edge CatmullClark = joined-edge edge (faces_of_edge level.polygons edge) (edge_sharpness_of level edge)
joined-edge_mask level edge Linear = joined-mask_of (weigh_points 1 (edge.0 ∷ edge.1 ∷ [])) 2

pub joined-vertex_mask : (level : Level) (v : ℕ) (scheme : Scheme) → is_joined (vertex_mask level scheme v) ≡ true
joined-vertex_mask level v CatmullClark =
    joined-vertex v (ends_at level v) (faces_at level v) (vertex_sharpness_of level v) (uniform_child (vertex_sharpness_of level v)) (ring_at level v)
    (child_ring level.method (ring_at level v))
joined-vertex_mask level v Linear = joined-mask_of (weigh 1 (OfPoint v) ∷ []) 1
