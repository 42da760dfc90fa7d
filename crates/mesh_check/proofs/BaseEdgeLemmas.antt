-- The pairs that are edges, and the edges at the boundary.
use Rattle.std.proofs.Common.{◌≡◌, ℕ, Bool, true, ◌&&◌, List, [], ◌∷◌, length, nat_eq, arith, refl, ap, sym, ◌∙◌}
use Rattle.std.specs.List.{filter, list_any, list_all}
use Rattle.std.proofs.lemmas.Bool.Decides.{nat_tests}
use Rattle.subdiv_model.specs.Polygons.{Polygon, same_edge, is_among}
use Rattle.subdiv_model.specs.Edges.{all_sides, edges_of, is_boundary}
use Rattle.number_laws.proofs.ListLemmas.{any-both, all-kept}
use Rattle.mesh_laws.proofs.EdgeLemmas.{any-first_named, all-named}
use Rattle.mesh_laws.proofs.BoundaryLemmas.{boundary-sided}
use Rattle.level_topology.proofs.NumberingLemmas.{faces-alike}
use Rattle.level_builder.specs.Keys.{IsWord, edge_key}
use Rattle.mesh_check.specs.Base.{AreEdges}

-- a pair is an edge exactly where its number is known
pub pair-known : (polygons : List Polygon) (edges : List ℕ) (s : ℕ × ℕ) (key : ℕ) (known : Bool) → AreEdges polygons edges → IsWord s → key ≡ edge_key s → known ≡ is_among edges key → list_any (same_edge s) (edges_of polygons) ≡ known
pair-known polygons edges s key known are word is tells = any-first_named s (all_sides polygons) ∙ sym (tells ∙ ap (is_among edges) is ∙ are.all s word)

-- a side of the boundary is an edge
pub boundary-edges : (polygons : List Polygon) → list_all (λ s. list_any (same_edge s) (edges_of polygons)) (filter (is_boundary polygons) (all_sides polygons)) ≡ true
boundary-edges polygons = all-kept (is_boundary polygons) (λ s. list_any (same_edge s) (edges_of polygons)) (all_sides polygons) (all-named (all_sides polygons))

-- the boundary sides name exactly the boundary edges
pub boundary-named : (polygons : List Polygon) (edge : ℕ × ℕ) → list_any (same_edge edge) (filter (is_boundary polygons) (all_sides polygons)) ≡ is_boundary polygons edge
boundary-named polygons edge = any-both (is_boundary polygons) (same_edge edge) (all_sides polygons) ∙ go (all_sides polygons) (is_boundary polygons edge) refl (boundary-sided polygons edge)
  where
    alike : (s : ℕ × ℕ) → same_edge edge s ≡ true → is_boundary polygons edge ≡ is_boundary polygons s
    alike s same = ap (λ (faces : List ℕ). nat_eq (length faces) 1) (faces-alike edge s 0 polygons same)

    each : (sides : List (ℕ × ℕ)) → list_any (λ s. is_boundary polygons s && same_edge edge s) sides ≡ (is_boundary polygons edge && list_any (same_edge edge) sides)
    each [] = grind (arith, nat_tests)
    each (s ∷ sides) = grind (arith, nat_tests, alike s, each sides)

    go : (sides : List (ℕ × ℕ)) (b : Bool) → is_boundary polygons edge ≡ b → (is_boundary polygons edge ≡ true → list_any (same_edge edge) sides ≡ true)
        → list_any (λ s. is_boundary polygons s && same_edge edge s) sides ≡ is_boundary polygons edge
    go sides b is sided = grind (arith, nat_tests, each sides, sided)
