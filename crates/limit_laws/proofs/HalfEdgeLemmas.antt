-- A half of an edge has as many faces as the edge. So the boundary edges of the next level are the halves of boundary edges.
use Rattle.std.proofs.Common.{◌≡◌, ℕ, ◌+◌, Bool, true, false, nat_eq, nat_lt, List, length, arith, refl, ap, sym, ◌∙◌}
use Rattle.std.specs.List.{list_any, list_all}
use Rattle.std.proofs.lemmas.Bool.Decides.{nat_tests}
use Rattle.std.proofs.lemmas.Bool.{and_parts, eqb-true}
use Rattle.subdiv_model.specs.Polygons.{Polygon, same_side, same_edge, is_over}
use Rattle.subdiv_model.specs.Edges.{all_sides, edges_of, faces_of_edge, has_end, is_boundary, reversed, times_used}
use Rattle.subdiv_model.specs.Manifold.{is_simple}
use Rattle.subdiv_model.specs.Child.{edge_point, child_polygons}
use Rattle.mesh_laws.proofs.SideLemmas.{edge-count}
use Rattle.mesh_laws.proofs.EdgeLemmas.{any-first_named, any-alike, faces-count}
use Rattle.mesh_laws.proofs.ClosedLemmas.{any-all, no-loop}
use Rattle.mesh_laws.proofs.ChildCountLemmas.{is_inside, is_named, corner-edge, times-out, times-in}
use Rattle.mesh_laws.proofs.ChildClosedLemmas.{back-inside, back-edge, back-point}
use Rattle.mesh_laws.proofs.ChildFaceLemmas.{all-child, child-simple}
use Rattle.mesh_laws.proofs.ChildOverLemmas.{listed-sound}
use Rattle.mesh_laws.proofs.PointLemmas.{among-themselves, boundary-side}

-- facts of an edge of one face
pub record IsEdgeOfOne (points : ℕ) (polygons : List Polygon) (e : ℕ × ℕ) : Type 0 where
  pub named : is_named points polygons e ≡ true
  pub inside : is_inside points e ≡ true
  pub apart : nat_eq e.0 e.1 ≡ false

-- an edge that names one between points is between points
alike-inside : (points : ℕ) (e s : ℕ × ℕ) → same_edge e s ≡ true → is_inside points s ≡ true → is_inside points e ≡ true
alike-inside points e s h k = grind (arith, nat_tests)

-- equal edges both have two different ends
alike-apart : (e s : ℕ × ℕ) → same_edge e s ≡ true → nat_eq s.0 s.1 ≡ false → nat_eq e.0 e.1 ≡ false
alike-apart e s h k = grind (arith, nat_tests)

-- equal edges have the same ends
pub end-kept : (v : ℕ) (s t : ℕ × ℕ) → same_edge s t ≡ true → has_end v s ≡ true → has_end v t ≡ true
end-kept v s t h k = grind (arith, nat_tests)

-- an end of the edge is one of the two
pub end-cases : (v : ℕ) (e : ℕ × ℕ) → has_end v e ≡ true → nat_eq v e.0 ≡ false → nat_eq v e.1 ≡ true
end-cases v e h k = grind (arith, nat_tests)

module _ (points : ℕ) (polygons : List Polygon) (over : is_over points polygons ≡ true) (simple : list_all is_simple polygons ≡ true) where
  -- the polygons of the next level
  abbrev children : List Polygon
  children = child_polygons points polygons

  -- the children are simple
  pub children-simple : list_all is_simple children ≡ true
  children-simple = child-simple points polygons children (all-child points polygons over simple)

  -- a boundary edge is listed, and goes from a point to another
  pub edge-of-one : (e : ℕ × ℕ) → is_boundary polygons e ≡ true → IsEdgeOfOne points polygons e
  edge-of-one e on_boundary =
      let sides = all_sides polygons in
      let there = boundary-side polygons simple e on_boundary in
      let found = any-all (same_edge e) (λ s. list_any (same_side s) sides) sides there (among-themselves sides) in
      let sound = and_parts (is_named points polygons found.0) (is_inside points found.0) (listed-sound points polygons over found.0 found.2) in
      record {
        named = any-first_named e sides ∙ there;
        inside = alike-inside points e found.0 found.1 sound.1;
        apart = alike-apart e found.0 found.1 (no-loop polygons found.0 simple found.2);
      }

  -- the faces of an edge are those of its side and of the reverse
  faces-both : (list : List Polygon) → list_all is_simple list ≡ true → (e : ℕ × ℕ) → nat_eq e.0 e.1 ≡ false
      → length (faces_of_edge list e) ≡ times_used list e + times_used list (reversed e)
  faces-both list plain e apart = faces-count e 0 list plain ∙ edge-count e (all_sides list) apart

  module _ (e : ℕ × ℕ) (is : IsEdgeOfOne points polygons e) where
    -- the edge is listed, named in the other direction
    back-is-named : is_named points polygons (e.1, e.0) ≡ true
    back-is-named = any-alike e (e.1, e.0) (edges_of polygons) (back-edge e) is.named

    -- the half at its first end has as many faces
    first-half : length (faces_of_edge children (e.0, edge_point points polygons e)) ≡ length (faces_of_edge polygons e)
    first-half =
        let ends = and_parts (nat_lt e.0 points) (nat_lt e.1 points) is.inside in
        let out = times-out points polygons over e is.named is.inside in
        let into : times_used children (edge_point points polygons e, e.0) ≡ times_used polygons (e.1, e.0) =
        ap (λ (n : ℕ). times_used children (n, e.0)) (sym (back-point points polygons over simple e))
        ∙ times-in points polygons over (e.1, e.0) back-is-named (back-inside points e is.inside) in
        faces-both children children-simple (e.0, edge_point points polygons e) (corner-edge points polygons e.0 e ends.0)
        ∙ ap (λ n. n + times_used children (edge_point points polygons e, e.0)) out
        ∙ ap (λ n. times_used polygons e + n) into
        ∙ sym (faces-both polygons simple e is.apart)

    -- the half at the second end has as many faces as the edge
    second-half : length (faces_of_edge children (e.1, edge_point points polygons e)) ≡ length (faces_of_edge polygons e)
    second-half =
        let ends = and_parts (nat_lt e.0 points) (nat_lt e.1 points) is.inside in
        let into = times-in points polygons over e is.named is.inside in
        let out : times_used children (e.1, edge_point points polygons e) ≡ times_used polygons (e.1, e.0) =
        ap (λ (n : ℕ). times_used children (e.1, n)) (sym (back-point points polygons over simple e))
        ∙ times-out points polygons over (e.1, e.0) back-is-named (back-inside points e is.inside) in
        let turned : times_used polygons (e.1, e.0) + times_used polygons e ≡ times_used polygons e + times_used polygons (e.1, e.0) = omega arith in
        faces-both children children-simple (e.1, edge_point points polygons e) (corner-edge points polygons e.1 e ends.1)
        ∙ ap (λ n. n + times_used children (edge_point points polygons e, e.1)) out
        ∙ ap (λ n. times_used polygons (e.1, e.0) + n) into
        ∙ turned
        ∙ sym (faces-both polygons simple e is.apart)

  -- a half of a boundary edge is a boundary edge
  pub half-boundary : (e : ℕ × ℕ) (v : ℕ) → is_boundary polygons e ≡ true → has_end v e ≡ true
      → is_boundary children (v, edge_point points polygons e) ≡ true
  half-boundary e v on_boundary ends = here (nat_eq v e.0) refl
    where
      is : IsEdgeOfOne points polygons e
      is = edge-of-one e on_boundary

      here : (first : Bool) → nat_eq v e.0 ≡ first → is_boundary children (v, edge_point points polygons e) ≡ true
      here true h =
          ap (λ n. is_boundary children (n, edge_point points polygons e)) (eqb-true v e.0 h)
          ∙ ap (λ n. nat_eq n 1) (first-half e is) ∙ on_boundary
      here false h =
          ap (λ n. is_boundary children (n, edge_point points polygons e)) (eqb-true v e.1 (end-cases v e ends h))
          ∙ ap (λ n. nat_eq n 1) (second-half e is) ∙ on_boundary
