-- A level whose points are all smooth: no edge and no point is sharp, and each point has an edge.
use Rattle.std.specs.Prelude.{ℕ, ◌≡◌, ◌<◌, [], length, get_or}
use Rattle.subdiv_model.specs.Edges.{edges_of}
use Rattle.subdiv_model.specs.Sharpness.{Smooth}
use Rattle.subdiv_model.specs.Level.{vertex_sharpness_of}
use Rattle.level_topology.specs.Topology.{Topology}

-- no edge is sharp
abbrev pub HasSmoothEdges : Topology → Type 0
HasSmoothEdges t = (e : ℕ) → e < length (edges_of t.level.polygons) → get_or t.level.edge_sharpness e Smooth ≡ Smooth

-- the point is not sharp, and it has an edge
pub record IsSmoothAt (t : Topology) (v : ℕ) : Type 0 where
  pub point : vertex_sharpness_of t.level v ≡ Smooth
  pub edge : 0 < length (get_or t.edges_at v [])

-- each point is smooth
pub record IsSmooth (t : Topology) : Type 0 where
  pub edges : HasSmoothEdges t
  pub points : (v : ℕ) → v < t.level.point_count → IsSmoothAt t v
