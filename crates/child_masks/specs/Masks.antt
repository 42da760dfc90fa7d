-- The mask of a point of a child of a level: the mask of the part of the level that the point comes from. Source: this
-- library.
use Rattle.std.specs.Prelude.{ℕ, ◌≡◌, ◌+◌, ◌<◌, ◌≤◌, ◌⊎◌, Bool, true, false, not, ◌&&◌, IsTrue, List, length, map, get_or}
use Rattle.std.specs.List.{filter, list_any, sum_by, range_with_len}
use Rattle.subdiv_model.specs.Edges.{edges_of, faces_of_edge}
use Rattle.subdiv_model.specs.Sharpness.{Smooth}
use Rattle.subdiv_model.specs.Level.{Level}
use Rattle.subdiv_model.specs.Value.{Value}
use Rattle.subdiv_model.specs.Mask.{Scheme, CatmullClark, Mask, OfFace, has_source, face_mask, edge_mask, vertex_mask}
use Rattle.subdiv_model.specs.Refined.{mask_value, source_value, mask_denominator, source_denominator}
use Rattle.subdiv_model.specs.Channel.{number_bound, chaikin_overflows_at, transition_overflows_at}
use Rattle.level_topology.specs.Topology.{Topology, edge_at}
use Rattle.level_topology.specs.Child.{PointOrigin, FromVertex, FromFace, FromEdge, same_origin, ChildTopology}
use Rattle.mask_rules.specs.Masks.{is_at_least_one}
use Rattle.mask_rules.specs.Around.{HasSharpBoundaryAt}

-- the mask of a point, by its origin
abbrev pub mask_from : Level → Scheme → PointOrigin → Mask
mask_from level scheme (FromVertex v) = vertex_mask level scheme v
mask_from level scheme (FromFace f) = face_mask level f
mask_from level scheme (FromEdge e) = edge_mask level scheme (edge_at level.polygons e)

abbrev pub masks_from : Level → Scheme → List PointOrigin → List Mask
masks_from level scheme origins = map (mask_from level scheme) origins

-- the part that a point comes from
abbrev pub origin_at : List PointOrigin → ℕ → PointOrigin
origin_at origins p = get_or origins p (FromVertex 0)

-- a point comes from a face
abbrev pub is_from_face : PointOrigin → Bool
is_from_face (FromVertex v) = false
is_from_face (FromFace f) = true
is_from_face (FromEdge e) = false

-- one of the points comes from there
abbrev pub has_origin : List PointOrigin → PointOrigin → Bool
has_origin origins origin = list_any (same_origin origin) origins

-- the faces that some mask uses although no point comes from them
abbrev pub hidden_faces : Level → Scheme → List PointOrigin → List ℕ
hidden_faces level scheme origins =
    filter (λ f. list_any (λ mask. has_source mask.terms (OfFace f)) (masks_from level scheme origins) && not (has_origin origins (FromFace f)))
    (range_with_len 0 (length level.polygons))

-- the number of terms of all masks, and of those of the hidden faces
abbrev pub step_terms : Level → Scheme → List PointOrigin → ℕ
step_terms level scheme origins =
    sum_by (λ mask. length mask.terms) (masks_from level scheme origins)
    + sum_by (λ f. length (face_mask level f).terms) (hidden_faces level scheme origins)

-- The child has a place for each part of the parent, and each mask that it needs exists. Its vertices are complete. Under
-- Catmull and Clark's scheme its edges have two faces or a sharpness of at least 1. The boundary about its vertices is sharp
-- then, and no half of an edge is refused there.
pub record CanRefine (parent : Topology) (child : ChildTopology) (scheme : Scheme) : Type 0 where
  pub vertices : child.parent_points ≡ parent.level.point_count
  pub faces : length child.parent_sizes ≡ length parent.level.polygons
  pub edges : child.parent_edges ≡ length (edges_of parent.level.polygons)
  pub complete : (v : ℕ) → IsTrue (has_origin child.origins (FromVertex v)) → get_or parent.complete v false ≡ true
  pub inside : scheme ≡ CatmullClark → (e : ℕ) → IsTrue (has_origin child.origins (FromEdge e)) →
      (length (faces_of_edge parent.level.polygons (edge_at parent.level.polygons e)) ≡ 2)
      ⊎ IsTrue (is_at_least_one (get_or parent.level.edge_sharpness e Smooth))
  pub boundary : scheme ≡ CatmullClark → (v : ℕ) → IsTrue (has_origin child.origins (FromVertex v)) → HasSharpBoundaryAt parent.level v
  pub fine : scheme ≡ CatmullClark → (v : ℕ) → IsTrue (has_origin child.origins (FromVertex v)) → chaikin_overflows_at parent.level v ≡ false

-- the common denominators of the points, from those of the points of the level
abbrev pub dens_from : Level → Scheme → List ℕ → List PointOrigin → List ℕ
dens_from level scheme dens origins = map (mask_denominator (source_denominator level dens)) (masks_from level scheme origins)

-- the values of the points, from those of the points of the level
abbrev pub values_from : Level → Scheme → List PointOrigin → List Value → List Value
values_from level scheme origins values = map (mask_value (source_value level values)) (masks_from level scheme origins)

-- at no vertex that has a child point is a weight refused
abbrev pub HasNoTransition : Level → Scheme → List PointOrigin → Type 0
HasNoTransition level scheme origins =
    (v : ℕ) → IsTrue (has_origin origins (FromVertex v)) → transition_overflows_at level scheme v ≡ false

-- no weight is refused at this vertex, if it has a child point
abbrev pub HasNoTransitionAt : Level → Scheme → List PointOrigin → ℕ → Type 0
HasNoTransitionAt level scheme origins v = IsTrue (has_origin origins (FromVertex v)) → transition_overflows_at level scheme v ≡ false

-- the least vertex with a child point at which a weight is refused
pub record IsFirstTransition (level : Level) (scheme : Scheme) (origins : List PointOrigin) (v : ℕ) : Type 0 where
  pub has : IsTrue (has_origin origins (FromVertex v))
  pub refused : transition_overflows_at level scheme v ≡ true
  pub first : (u : ℕ) → u < v → IsTrue (has_origin origins (FromVertex u)) → transition_overflows_at level scheme u ≡ false

-- the least point whose denominator is above the bound
pub record IsFirstDenominator (dens : List ℕ) (p : ℕ) : Type 0 where
  pub exists : p < length dens
  pub great : number_bound < get_or dens p 1
  pub first : (q : ℕ) → q < p → get_or dens q 1 ≤ number_bound
