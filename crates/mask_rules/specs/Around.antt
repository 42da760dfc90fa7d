-- The edges and faces around a point of a level, in the order of the level's lists.
use Rattle.std.specs.Prelude.{◌≡◌, ℕ, ◌+◌, ◌<◌, ◌≤◌, Bool, true, not, ◌&&◌, IsTrue, List, [], length, map, get_or}
use Rattle.subdiv_model.specs.Polygons.{Polygon}
use Rattle.subdiv_model.specs.Sharpness.{Sharpness, Smooth, Infinite, uniform_child}
use Rattle.subdiv_model.specs.Rule.{Rule, child_ring, vertex_rule, same_mask, transition_overflows}
use Rattle.subdiv_model.specs.Level.{Level, vertex_sharpness_of}
use Rattle.subdiv_model.specs.Mask.{Mask, other_end, mask_of_rule, mask_of_vertex}
use Rattle.subdiv_model.specs.Edges.{edges_of, has_end, is_boundary}
use Rattle.level_topology.specs.Topology.{Topology, edge_at}
use Rattle.mask_rules.specs.declared.mask.MaskFault.{MaskFault}
use Rattle.mask_rules.specs.declared.mask.MaskFault.TheVariants.{Transition, Memory}

-- the other end of an edge, by its number
abbrev pub end_of_edge : List Polygon → ℕ → ℕ → ℕ
end_of_edge polygons v e = other_end v (edge_at polygons e)

abbrev pub ends_in : Topology → ℕ → List ℕ
ends_in t v = map (end_of_edge t.level.polygons v) (get_or t.edges_at v [])

abbrev pub faces_in : Topology → ℕ → List ℕ
faces_in t v = get_or t.faces_at v []

-- the sharpness of the edges
abbrev pub ring_in : Topology → ℕ → List Sharpness
ring_in t v = map (λ e. get_or t.level.edge_sharpness e Smooth) (get_or t.edges_at v [])

-- the mask of a vertex by one rule
abbrev pub rule_mask_in : Topology → ℕ → Rule → Mask
rule_mask_in t v rule = mask_of_rule v (ends_in t v) (faces_in t v) rule

-- the mask of a vertex by Catmull and Clark's scheme, its edges and faces in the order of the level's lists
abbrev pub mask_in : Topology → ℕ → Mask
mask_in t v =
    mask_of_vertex (vertex_sharpness_of t.level v) (uniform_child (vertex_sharpness_of t.level v)) (ring_in t v)
    (child_ring t.level.method (ring_in t v)) v (ends_in t v) (faces_in t v)

-- the rules of a vertex in its level and in the next have different masks, and the weight between them is refused
abbrev pub is_refused_in : Topology → ℕ → Bool
is_refused_in t v =
    let vertex = vertex_sharpness_of t.level v in
    let ring = ring_in t v in
    let ring_child = child_ring t.level.method ring in
    not (same_mask (vertex_rule vertex ring) (vertex_rule (uniform_child vertex) ring_child)) && transition_overflows vertex (uniform_child vertex) ring ring_child

-- the fault of a vertex whose weight is refused or not
abbrev pub IsFaultWhere : Bool → MaskFault → Type 0
IsFaultWhere refused Transition = refused ≡ true
IsFaultWhere refused Memory = Unit {0}

-- each edge with one face at a point is infinitely sharp
abbrev pub HasSharpBoundaryAt : Level → ℕ → Type 0
HasSharpBoundaryAt level v =
    (e : ℕ) → e < length (edges_of level.polygons) → IsTrue (has_end v (edge_at level.polygons e)) → IsTrue (is_boundary level.polygons (edge_at level.polygons e))
    → get_or level.edge_sharpness e Smooth ≡ Infinite

-- a point, its edges and its faces are at most 16 together
abbrev pub HasFewTerms : Topology → ℕ → Type 0
HasFewTerms t v = 1 + length (get_or t.edges_at v []) + length (get_or t.faces_at v []) ≤ 16
