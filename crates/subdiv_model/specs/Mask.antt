-- Masks: a new point as weights over a denominator.
-- Source: Catmull and Clark 1978 for faces and smooth edges and vertices; DeRose, Kass and Truong 1998 for sharp and semi-sharp
-- edges, creases, corners and darts; transitions at a vertex are Drillolive's.
use Rattle.std.specs.Prelude.{ℕ, ◌+◌, ◌-◌, ◌*◌, ◌/◌, Bool, true, false, not, ◌&&◌, nat_eq, nat_le, nat_lt, List, [], ◌∷◌, ◌++◌, length, map, get_or, if◌then◌else◌}
use Rattle.std.specs.List.{filter, list_all, list_any, sum_by, range_with_len}
use Rattle.subdiv_model.specs.Lists.{each_once_by}
use Rattle.subdiv_model.specs.Polygons.{Polygon}
use Rattle.subdiv_model.specs.Edges.{edges_of, faces_of_edge}
use Rattle.subdiv_model.specs.Sharpness.{Sharpness, Smooth, Semi, Infinite, uniform_child, is_proper_sharpness}
use Rattle.subdiv_model.specs.Level.{Level, edge_sharpness_of, vertex_sharpness_of, edges_at, faces_at, ring_at}
use Rattle.subdiv_model.specs.Rule.{Rule, SmoothRule, DartRule, CreaseRule, CornerRule, vertex_rule, same_mask, child_ring, transition_weight}
use Rattle.subdiv_model.specs.Multiples.{lcm_of}

-- the rules of refinement: Catmull-Clark, or linear
pub data Scheme : Type 0 where
  CatmullClark : Scheme
  Linear : Scheme

-- a point of the level, or the new point of a face, each by its number
pub data SourcePoint : Type 0 where
  OfPoint : ℕ → SourcePoint
  OfFace : ℕ → SourcePoint

-- a weight and its source
pub record Term : Type 0 where
  pub source : SourcePoint
  pub weight : ℕ

-- terms with distinct sources and weights above 0, and their denominator
pub record Mask : Type 0 where
  pub terms : List Term
  pub denominator : ℕ

-- both sources are the same
abbrev pub same_source : SourcePoint → SourcePoint → Bool
same_source (OfPoint v) (OfPoint w) = nat_eq v w
same_source (OfPoint v) (OfFace g) = false
same_source (OfFace f) (OfPoint w) = false
same_source (OfFace f) (OfFace g) = nat_eq f g

-- a term of a weight and a source
abbrev pub weigh : ℕ → SourcePoint → Term
weigh weight source = record { source = source; weight = weight }

-- a term of this weight for each point
abbrev pub weigh_points : ℕ → List ℕ → List Term
weigh_points weight points = map (λ v. weigh weight (OfPoint v)) points

-- a term of this weight for the new point of each face
abbrev pub weigh_faces : ℕ → List ℕ → List Term
weigh_faces weight faces = map (λ f. weigh weight (OfFace f)) faces

-- the weight of a source in a mask, and 0 if the mask lacks the source
abbrev pub weight_in : List Term → SourcePoint → ℕ
weight_in terms source = sum_by (λ t. t.weight) (filter (λ t. same_source source t.source) terms)

-- a term has this source
abbrev pub has_source : List Term → SourcePoint → Bool
has_source terms source = list_any (λ t. same_source source t.source) terms

-- each source once, by first appearance
abbrev pub each_once : List SourcePoint → List SourcePoint
each_once sources = each_once_by same_source sources

-- no two terms have the same source
abbrev pub has_distinct_sources : List Term → Bool
has_distinct_sources [] = true
has_distinct_sources (t ∷ terms) = not (has_source terms t.source) && has_distinct_sources terms

-- the terms with all weights multiplied by a number
abbrev pub scaled_terms : ℕ → List Term → List Term
scaled_terms amount terms = map (λ t. weigh (amount * t.weight) t.source) terms

-- the terms with equal sources joined, by first appearance
abbrev pub joined_terms : List Term → List Term
joined_terms terms = map (λ source. weigh (weight_in terms source) source) (each_once (map (λ t. t.source) terms))

-- the mask of these terms: terms of one source are joined, and terms of weight 0 omitted
abbrev pub mask_of : List Term → ℕ → Mask
mask_of terms denominator = record {
  terms = filter (λ t. nat_lt 0 t.weight) (joined_terms terms);
  denominator = denominator;
}

-- the sum of the weights
abbrev pub total_weight : List Term → ℕ
total_weight terms = sum_by (λ t. t.weight) terms

-- the weights are above 0 and sum to the denominator, which is above 0
abbrev pub is_mean : Mask → Bool
is_mean mask =
    list_all (λ t. nat_lt 0 t.weight) mask.terms && (nat_eq (total_weight mask.terms) mask.denominator && nat_lt 0 mask.denominator)

-- the mask of a face point: the mean of the corners
abbrev pub mask_of_corners : Polygon → Mask
mask_of_corners corners = mask_of (weigh_points 1 corners) (length corners)

-- the mask of a sharp edge: the mean of its ends
abbrev pub sharp_edge_mask : ℕ × ℕ → Mask
sharp_edge_mask edge = mask_of (weigh_points 1 (edge.0 ∷ edge.1 ∷ [])) 2

-- the mask of a smooth edge: the mean of its ends and of its two new face points
abbrev pub smooth_edge_mask : ℕ × ℕ → List ℕ → Mask
smooth_edge_mask edge faces = mask_of (weigh_points 1 (edge.0 ∷ edge.1 ∷ []) ++ weigh_faces 1 faces) 4

-- the mask of an edge of sharpness x/y below 1: x/y of the sharp mask and the rest of the smooth one
abbrev pub blended_edge_mask : ℕ → ℕ → ℕ × ℕ → List ℕ → Mask
blended_edge_mask x y edge faces =
    mask_of (weigh_points (y + x) (edge.0 ∷ edge.1 ∷ []) ++ weigh_faces (y - x) faces) (4 * y)

-- the mask of an edge by its sharpness
abbrev pub mask_of_edge : Sharpness → ℕ × ℕ → List ℕ → Mask
mask_of_edge Smooth edge faces = smooth_edge_mask edge faces
mask_of_edge (Semi x y) edge faces = if nat_le y x then sharp_edge_mask edge else blended_edge_mask x y edge faces
mask_of_edge Infinite edge faces = sharp_edge_mask edge

-- the mask of a smooth vertex, from the other ends of its edges and from its faces
abbrev pub smooth_vertex_mask : ℕ → List ℕ → List ℕ → Mask
smooth_vertex_mask v ends faces =
    let n = length ends in
    mask_of (weigh (n * (n - 2)) (OfPoint v) ∷ (weigh_points 1 ends ++ weigh_faces 1 faces)) (n * n)

-- the mask of a vertex on a crease, from the other ends of its two sharp edges
abbrev pub crease_mask : ℕ → ℕ → ℕ → Mask
crease_mask v first second = mask_of (weigh 6 (OfPoint v) ∷ weigh_points 1 (first ∷ second ∷ [])) 8

-- the mask of a corner: the point itself
abbrev pub corner_mask : ℕ → Mask
corner_mask v = mask_of (weigh 1 (OfPoint v) ∷ []) 1

-- the mask of a vertex by its rule
abbrev pub mask_of_rule : ℕ → List ℕ → List ℕ → Rule → Mask
mask_of_rule v ends faces SmoothRule = smooth_vertex_mask v ends faces
mask_of_rule v ends faces DartRule = smooth_vertex_mask v ends faces
mask_of_rule v ends faces (CreaseRule first second) = crease_mask v (get_or ends first 0) (get_or ends second 0)
mask_of_rule v ends faces CornerRule = corner_mask v

-- x/y of the first mask and the rest of the second, over a common multiple of their denominators
abbrev pub blend : ℕ × ℕ → Mask → Mask → Mask
blend w parent child =
    let multiple = lcm_of parent.denominator child.denominator in
    mask_of
    (scaled_terms (w.0 * (multiple / parent.denominator)) parent.terms ++ scaled_terms ((w.1 - w.0) * (multiple / child.denominator)) child.terms)
    (w.1 * multiple)

-- the blend of the masks of this level and the next by a weight; at weight 1 the mask of this level
abbrev pub transition_mask : ℕ × ℕ → Mask → Mask → Mask
transition_mask w parent child = if nat_eq w.0 w.1 then parent else blend w parent child

-- the mask of a vertex, from its sharpness and ring in both levels, the other ends of its edges, and its faces
abbrev pub mask_of_vertex : Sharpness → Sharpness → List Sharpness → List Sharpness → ℕ → List ℕ → List ℕ → Mask
mask_of_vertex vertex vertex_child ring ring_child v ends faces =
    let parent = vertex_rule vertex ring in
    let child = vertex_rule vertex_child ring_child in
    if same_mask parent child then mask_of_rule v ends faces parent
    else transition_mask (transition_weight vertex vertex_child ring ring_child) (mask_of_rule v ends faces parent) (mask_of_rule v ends faces child)

-- the other end of an edge at the point
abbrev pub other_end : ℕ → ℕ × ℕ → ℕ
other_end v edge = if nat_eq v edge.0 then edge.1 else edge.0

-- the other ends of the edges at a point, in the order of the edges
abbrev pub ends_at : Level → ℕ → List ℕ
ends_at level v = map (other_end v) (edges_at level v)

-- the rule of a point in its level
abbrev pub rule_at : Level → ℕ → Rule
rule_at level v = vertex_rule (vertex_sharpness_of level v) (ring_at level v)

-- the rule of a point in the next level
abbrev pub child_rule_at : Level → ℕ → Rule
child_rule_at level v =
    vertex_rule (uniform_child (vertex_sharpness_of level v)) (child_ring level.method (ring_at level v))

-- the point has as many faces as edges, and at least two
abbrev pub is_interior : Level → ℕ → Bool
is_interior level v =
    nat_le 2 (length (edges_at level v)) && nat_eq (length (faces_at level v)) (length (edges_at level v))

-- the sharpness of the point and of each edge at it is well formed
abbrev pub is_proper_at : Level → ℕ → Bool
is_proper_at level v = is_proper_sharpness (vertex_sharpness_of level v) && list_all is_proper_sharpness (ring_at level v)

-- the mask of the new point of a face
abbrev pub face_mask : Level → ℕ → Mask
face_mask level f = mask_of_corners (get_or level.polygons f [])

-- the mask of the new point of an edge, by scheme; in the linear scheme every edge is sharp
abbrev pub edge_mask : Level → Scheme → ℕ × ℕ → Mask
edge_mask level CatmullClark edge =
    mask_of_edge (edge_sharpness_of level edge) edge (faces_of_edge level.polygons edge)
edge_mask level Linear edge = sharp_edge_mask edge

-- the mask of a point in the next level, by scheme; in the linear scheme every vertex is a corner
abbrev pub vertex_mask : Level → Scheme → ℕ → Mask
vertex_mask level CatmullClark v =
    let vertex = vertex_sharpness_of level v in
    let ring = ring_at level v in
    mask_of_vertex vertex (uniform_child vertex) ring (child_ring level.method ring) v (ends_at level v) (faces_at level v)
vertex_mask level Linear v = corner_mask v

-- the masks of all points of the next level: for the points of the level, then its faces, then its edges
abbrev pub child_masks : Level → Scheme → List Mask
child_masks level scheme =
    map (vertex_mask level scheme) (range_with_len 0 level.point_count)
    ++ (map (face_mask level) (range_with_len 0 (length level.polygons)) ++ map (edge_mask level scheme) (edges_of level.polygons))

-- the source is a point or a face of the level
abbrev pub is_source_of : Level → SourcePoint → Bool
is_source_of level (OfPoint v) = nat_lt v level.point_count
is_source_of level (OfFace f) = nat_lt f (length level.polygons)

-- the mask is a mean of points and faces of the level
abbrev pub is_mean_of : Level → Mask → Bool
is_mean_of level mask = is_mean mask && list_all (λ t. is_source_of level t.source) mask.terms

-- all masks of the next level are means of points and faces of the level
abbrev pub has_means : Level → Scheme → Bool
has_means level scheme = list_all (is_mean_of level) (child_masks level scheme)

-- no mask has the same source in two terms
abbrev pub has_distinct_masks : Level → Scheme → Bool
has_distinct_masks level scheme = list_all (λ mask. has_distinct_sources mask.terms) (child_masks level scheme)

-- the number of mask terms of a step
abbrev pub mask_terms : Level → Scheme → ℕ
mask_terms level scheme = sum_by (λ mask. length mask.terms) (child_masks level scheme)
