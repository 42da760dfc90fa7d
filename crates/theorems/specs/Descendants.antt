-- The descendants of the boundary edges of a level: the pieces that each step splits them into.
-- Source: Drillolive.
use Rattle.std.specs.Prelude.{ℕ, zero, suc, List, [], ◌∷◌}
use Rattle.std.specs.List.{filter, flat_map}
use Rattle.subdiv_model.specs.Edges.{edges_of, is_boundary}
use Rattle.subdiv_model.specs.Level.{Level}
use Rattle.subdiv_model.specs.Child.{edge_point, refined_level}

-- the half of an edge from one of its ends to its new point
abbrev pub half_from : Level → ℕ × ℕ → ℕ → ℕ × ℕ
half_from level edge end = (end, edge_point level.point_count level.polygons edge)

-- the two halves of an edge
abbrev pub two_halves : Level → ℕ × ℕ → List (ℕ × ℕ)
two_halves level edge = half_from level edge edge.0 ∷ half_from level edge edge.1 ∷ []

-- the descendants of the boundary edges after k steps: the edges themselves for k = 0, then the halves of the earlier descendants
abbrev pub boundary_descendants : Level → ℕ → List (ℕ × ℕ)
boundary_descendants base zero = filter (is_boundary base.polygons) (edges_of base.polygons)
boundary_descendants base (suc k) = flat_map (two_halves (refined_level base k)) (boundary_descendants base k)
