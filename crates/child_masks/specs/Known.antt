-- The conditions on the part of a level that a child point comes from.
use Rattle.std.specs.Prelude.{ℕ, ◌≡◌, ◌<◌, ◌⊎◌, true, false, IsTrue, length, get_or}
use Rattle.subdiv_model.specs.Edges.{edges_of, faces_of_edge}
use Rattle.subdiv_model.specs.Sharpness.{Smooth}
use Rattle.subdiv_model.specs.Mask.{Scheme, CatmullClark}
use Rattle.subdiv_model.specs.Channel.{chaikin_overflows_at}
use Rattle.level_topology.specs.Topology.{Topology, edge_at}
use Rattle.level_topology.specs.Child.{PointOrigin, FromVertex, FromFace, FromEdge}
use Rattle.mask_rules.specs.Masks.{is_at_least_one}
use Rattle.mask_rules.specs.Around.{HasSharpBoundaryAt}

-- the condition on a vertex for its mask
pub record IsVertexKnown (parent : Topology) (scheme : Scheme) (v : ℕ) : Type 0 where
  pub known : v < parent.level.point_count
  pub complete : get_or parent.complete v false ≡ true
  pub boundary : scheme ≡ CatmullClark → HasSharpBoundaryAt parent.level v
  pub fine : scheme ≡ CatmullClark → chaikin_overflows_at parent.level v ≡ false

-- the condition on an edge for its mask
pub record IsEdgeKnown (parent : Topology) (scheme : Scheme) (e : ℕ) : Type 0 where
  pub known : e < length (edges_of parent.level.polygons)
  pub inside : scheme ≡ CatmullClark
      → (length (faces_of_edge parent.level.polygons (edge_at parent.level.polygons e)) ≡ 2)
      ⊎ IsTrue (is_at_least_one (get_or parent.level.edge_sharpness e Smooth))

-- the condition on any part for its mask
abbrev pub IsPartKnown : Topology → Scheme → PointOrigin → Type 0
IsPartKnown parent scheme (FromVertex v) = IsVertexKnown parent scheme v
IsPartKnown parent scheme (FromFace f) = f < length parent.level.polygons
IsPartKnown parent scheme (FromEdge e) = IsEdgeKnown parent scheme e
