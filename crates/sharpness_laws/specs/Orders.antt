-- The edges and faces at a vertex in two orders, and the masks and weights they give, for the laws of order.
use Rattle.std.specs.Prelude.{ℕ, Bool, List, map}
use Rattle.std.specs.List.Sorted.{IsPermutation}
use Rattle.subdiv_model.specs.Sharpness.{Sharpness, Method, uniform_child}
use Rattle.subdiv_model.specs.Level.{Level, edge_sharpness_of, vertex_sharpness_of, edges_at, faces_at}
use Rattle.subdiv_model.specs.Rule.{vertex_rule, same_mask, child_ring, transition_weight, transition_overflows}
use Rattle.subdiv_model.specs.Mask.{Mask, mask_of_rule, mask_of_vertex, other_end}
use Rattle.sharpness_laws.specs.SameWeights.{HaveSameWeights}

-- a sharpness in a level, and the one in the next level
abbrev pub Decrement : Type 0
Decrement = Sharpness × Sharpness

-- the sharpness of each edge in the level
abbrev pub ring_now : List Decrement → List Sharpness
ring_now ring = map (λ edge. edge.0) ring

-- the sharpness of each edge in the next level
abbrev pub ring_next : List Decrement → List Sharpness
ring_next ring = map (λ edge. edge.1) ring

-- the rules of the vertex in both levels give the same mask
abbrev pub has_one_mask : Decrement → List Decrement → Bool
has_one_mask vertex ring = same_mask (vertex_rule vertex.0 (ring_now ring)) (vertex_rule vertex.1 (ring_next ring))

-- the weight of the transition of a vertex
abbrev pub weight_in_transition : Decrement → List Decrement → ℕ × ℕ
weight_in_transition vertex ring = transition_weight vertex.0 vertex.1 (ring_now ring) (ring_next ring)

-- the weight of the transition is refused
abbrev pub overflows_in_transition : Decrement → List Decrement → Bool
overflows_in_transition vertex ring = transition_overflows vertex.0 vertex.1 (ring_now ring) (ring_next ring)

-- the edges at a vertex, each by its other end and its sharpness in one level or in two, and the faces at the vertex
pub record Star (S : Type 0) : Type 0 where
  pub edges : List (ℕ × S)
  pub faces : List ℕ

-- both stars have the same edges and the same faces, in any order
pub record IsReordered {S : Type 0} (star other : Star S) : Type 0 where
  pub edges : IsPermutation star.edges other.edges
  pub faces : IsPermutation star.faces other.faces

-- the other ends of the edges
abbrev pub ends_of : {S : Type 0} → Star S → List ℕ
ends_of star = map (λ edge. edge.0) star.edges

-- the sharpness of the edges
abbrev pub ring_of : {S : Type 0} → Star S → List S
ring_of star = map (λ edge. edge.1) star.edges

-- the mask of a vertex by its rule in one level
abbrev pub mask_by_rule : Sharpness → ℕ → Star Sharpness → Mask
mask_by_rule vertex v star = mask_of_rule v (ends_of star) star.faces (vertex_rule vertex (ring_of star))

-- the mask of a vertex between two levels
abbrev pub mask_in_transition : Decrement → ℕ → Star Decrement → Mask
mask_in_transition vertex v star =
    mask_of_vertex vertex.0 vertex.1 (map (λ edge. edge.1.0) star.edges) (map (λ edge. edge.1.1) star.edges) v (ends_of star) star.faces

-- the mask of a vertex between two levels, where the method gives the sharpness of the edges in the next level
abbrev pub mask_by_method : Method → Decrement → ℕ → Star Sharpness → Mask
mask_by_method method vertex v star =
    mask_of_vertex vertex.0 vertex.1 (ring_of star) (child_ring method (ring_of star)) v (ends_of star) star.faces

-- the edges and the faces at a vertex of a level, in any order
pub record OrderAt (level : Level) (v : ℕ) : Type 0 where
  pub edges : List (ℕ × ℕ)
  pub faces : List ℕ
  pub all_edges : IsPermutation (edges_at level v) edges
  pub all_faces : IsPermutation (faces_at level v) faces

-- the sharpness of each edge, in the order of the edges
abbrev pub ring_in : Level → List (ℕ × ℕ) → List Sharpness
ring_in level edges = map (edge_sharpness_of level) edges

-- the mask of a vertex of a level, made from its edges and faces in this order
abbrev pub mask_in_order : Level → ℕ → List (ℕ × ℕ) → List ℕ → Mask
mask_in_order level v edges faces =
    let vertex = vertex_sharpness_of level v in
    mask_of_vertex vertex (uniform_child vertex) (ring_in level edges) (child_ring level.method (ring_in level edges)) v (map (other_end v) edges) faces

-- the mask has the same weights in every order of the edges and faces of a star
abbrev pub IgnoresOrder : {S : Type 0} → (Star S → Mask) → Type 0
IgnoresOrder {S} mask = (star other : Star S) → IsReordered star other → HaveSameWeights (mask star) (mask other)
