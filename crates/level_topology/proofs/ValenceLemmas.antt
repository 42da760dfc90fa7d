-- How many edges are listed at a point.
use Rattle.std.proofs.Common.{◌≡◌, ℕ, ◌<◌, ◌≤◌, not, [], length, get_or, arith, refl, ◌∙◌}
use Rattle.std.proofs.lemmas.List.{length-map}
use Rattle.std.proofs.lemmas.List.Filters.{length-filter_both}
use Rattle.std.proofs.lemmas.List.Sorted.{length_permutation}
use Rattle.subdiv_model.specs.Edges.{edges_of, edge_number, edges_of_point, has_end}
use Rattle.level_topology.specs.Topology.{Topology, IsTopology}

-- as many as there are
pub edges-counted : (t : Topology) (v : ℕ) → IsTopology t → v < t.level.point_count → length (get_or t.edges_at v []) ≡ length (edges_of_point t.level.polygons v)
edges-counted t v is inside = length_permutation _ _ (is.listed v inside).edges ∙ length-map (edges_of_point t.level.polygons v) (edge_number t.level.polygons)

-- A point has at most as many edges as there are.
pub edges-at-most : (t : Topology) (v : ℕ) → IsTopology t → v < t.level.point_count → length (get_or t.edges_at v []) ≤ length (edges_of t.level.polygons)
edges-at-most t v is inside = omega (arith, edges-counted t v is inside, length-filter_both (has_end v) (λ s. not (has_end v s)) (λ s. refl) (edges_of t.level.polygons))
