-- A boundary edge is an edge, even if the polygons are no manifold.
use Rattle.std.proofs.Common.{◌≡◌, ℕ, true, List, length, arith, ◌∙◌}
use Rattle.std.specs.List.{list_any}
use Rattle.std.proofs.lemmas.Bool.{eqb-true}
use Rattle.subdiv_model.specs.Polygons.{Polygon, same_edge, sides_of, has_edge}
use Rattle.subdiv_model.specs.Edges.{all_sides, edges_of, faces_of_edge, is_boundary}
use Rattle.number_laws.proofs.CountLemmas.{any-from_count}
use Rattle.number_laws.proofs.ListLemmas.{any-flat_map, places-from-length}
use Rattle.mesh_laws.proofs.EdgeLemmas.{any-first_named}

pub boundary-sided : (polygons : List Polygon) (edge : ℕ × ℕ) → is_boundary polygons edge ≡ true
    → list_any (same_edge edge) (all_sides polygons) ≡ true
boundary-sided polygons edge boundary =
    let one = eqb-true (length (faces_of_edge polygons edge)) 1 boundary in
    any-flat_map (same_edge edge) sides_of polygons
    ∙ any-from_count (has_edge edge) polygons (omega (arith, one, places-from-length (has_edge edge) 0 polygons))

pub boundary-listed : (polygons : List Polygon) (edge : ℕ × ℕ) → is_boundary polygons edge ≡ true
    → list_any (same_edge edge) (edges_of polygons) ≡ true
boundary-listed polygons edge boundary = any-first_named edge (all_sides polygons) ∙ boundary-sided polygons edge boundary
