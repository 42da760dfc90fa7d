-- An edge of one face of the next level is a half of an edge of one face.
use Rattle.std.proofs.Common.{◌≡◌, ℕ, Bool, true, false, List, arith, refl, ap, sym, ◌∙◌, inl, inr}
use Rattle.std.specs.List.{list_any, list_all}
use Rattle.std.proofs.lemmas.Bool.Decides.{nat_tests}
use Rattle.subdiv_model.specs.Polygons.{Polygon, same_side, same_edge, is_over, has_distinct_sides}
use Rattle.subdiv_model.specs.Edges.{all_sides, edges_of, has_end, is_boundary, reversed, times_used}
use Rattle.subdiv_model.specs.Manifold.{is_simple}
use Rattle.subdiv_model.specs.Child.{edge_point, face_point, child_polygons}
use Rattle.number_laws.proofs.CountLemmas.{one_if, one-yes}
use Rattle.mesh_laws.proofs.EdgeLemmas.{any-alike}
use Rattle.mesh_laws.proofs.ClosedLemmas.{any-all, any-here}
use Rattle.mesh_laws.proofs.ChildCountLemmas.{is_inside, is_named, times-out, times-in, times-toward, times-away}
use Rattle.mesh_laws.proofs.ChildClosedLemmas.{same-pair, back-point, Within, IsOfFour, once, source}
use Rattle.mesh_laws.proofs.ChildFaceLemmas.{all-child, child-simple}
use Rattle.mesh_laws.proofs.ChildOnceLemmas.{child-distinct}
use Rattle.mesh_laws.proofs.PointLemmas.{among-themselves, boundary-alike, boundary-side, boundary-back}

-- the edge t of the next level is the half at one end of an edge of one face
pub record IsBoundaryHalf (points : ℕ) (polygons : List Polygon) (t : ℕ × ℕ) : Type 0 where
  pub edge : ℕ × ℕ
  pub end : ℕ
  pub at_end : has_end end edge ≡ true
  pub on_boundary : is_boundary polygons edge ≡ true
  pub inside : is_inside points edge ≡ true
  pub named : is_named points polygons edge ≡ true
  pub half : same_edge t (end, edge_point points polygons edge) ≡ true

pub first-end : (s : ℕ × ℕ) → has_end s.0 s ≡ true
first-end s = grind (arith, nat_tests)

pub second-end : (s : ℕ × ℕ) → has_end s.1 s ≡ true
second-end s = grind (arith, nat_tests)

-- the other way it has the same ends, and names the same edge
back-inside : (points : ℕ) (s : ℕ × ℕ) → is_inside points s ≡ true → is_inside points (s.1, s.0) ≡ true
back-inside points s h = grind (arith, nat_tests)

back-edge : (s : ℕ × ℕ) → same_edge s (s.1, s.0) ≡ true
back-edge s = grind (arith, nat_tests)

same-forth : (t a s : ℕ × ℕ) → same_edge t a ≡ true → same_side a s ≡ true → same_edge t s ≡ true
same-forth t a s h k = grind (arith, nat_tests)

same-back : (t a s : ℕ × ℕ) → same_edge t a ≡ true → same_side a (s.1, s.0) ≡ true → same_edge t s ≡ true
same-back t a s h k = grind (arith, nat_tests)

module _ (points : ℕ) (polygons : List Polygon) (over : is_over points polygons ≡ true) (simple : list_all is_simple polygons ≡ true) (distinct : has_distinct_sides (all_sides polygons) ≡ true) where
  abbrev children : List Polygon
  children = child_polygons points polygons

  quads-simple : list_all is_simple children ≡ true
  quads-simple = child-simple points polygons children (all-child points polygons over simple)

  -- a side that occurs the other way as often as its half does, and that is never, is of one face
  unused-from : (k : ℕ) (s : ℕ × ℕ) → Within points polygons over simple k s → times_used polygons (reversed s) ≡ 0
      → is_boundary polygons s ≡ true
  unused-from k s w none =
      one-is (is_boundary polygons s) (omega (arith, boundary-back polygons simple distinct s (any-here (same_side s) polygons k w.1)))
    where
      one-is : (b : Bool) → one_if b ≡ 1 → b ≡ true
      one-is true h = refl
      one-is false h = absurd (omega arith)

  pub child-boundary : (t : ℕ × ℕ) → is_boundary children t ≡ true → IsBoundaryHalf points polygons t
  child-boundary t on_boundary =
      let sides = all_sides children in
      let found =
      any-all (same_edge t) (λ s. list_any (same_side s) sides) sides (boundary-side children quads-simple t on_boundary)
      (among-themselves sides) in
      let a : ℕ × ℕ = found.0 in
      let one : is_boundary children a ≡ true = sym (boundary-alike children quads-simple t a found.1) ∙ on_boundary in
      let none : times_used children (reversed a) ≡ 0 =
      omega (
        arith,
        boundary-back children quads-simple (child-distinct points polygons over simple distinct) a found.2,
        one-yes (is_boundary children a) one,
      ) in
      let from = source points polygons over simple a found.2 in
      go a found.1 none from.0 from.1 from.2 from.3
    where
      go : (a : ℕ × ℕ) → same_edge t a ≡ true → times_used children (reversed a) ≡ 0 → (k : ℕ) (s : ℕ × ℕ)
          → Within points polygons over simple k s → IsOfFour points polygons over simple k s a → IsBoundaryHalf points polygons t
      go a same none k s w (inl h) =
          let back : times_used children (edge_point points polygons (s.1, s.0), s.0) ≡ times_used polygons (s.1, s.0) =
          times-in points polygons over (s.1, s.0) (any-alike s (s.1, s.0) (edges_of polygons) (back-edge s) w.2)
          (back-inside points s w.3) in
          let turned : times_used children (edge_point points polygons s, s.0) ≡ 0 =
          ap (λ (u : ℕ × ℕ). times_used children (reversed u)) (sym (same-pair a _ h)) ∙ none in
          record {
            edge = s;
            end = s.0;
            at_end = first-end s;
            on_boundary = unused-from k s w (sym back ∙ ap (λ (n : ℕ). times_used children (n, s.0)) (back-point points polygons over simple s) ∙ turned);
            inside = w.3;
            named = w.2;
            half = same-forth t a _ same h;
          }
      go a same none k s w (inr (inl h)) =
          let turned : times_used children (face_point points k, edge_point points polygons s) ≡ 0 =
          ap (λ (u : ℕ × ℕ). times_used children (reversed u)) (sym (same-pair a _ h)) ∙ none in
          absurd (omega (arith, turned, times-away points polygons over s k w.2 w.0, once points polygons over simple k s w))
      go a same none k s w (inr (inr (inl h))) =
          let turned : times_used children (edge_point points polygons s, face_point points k) ≡ 0 =
          ap (λ (u : ℕ × ℕ). times_used children (reversed u)) (sym (same-pair a _ h)) ∙ none in
          absurd (omega (arith, turned, times-toward points polygons over s k w.2 w.0, once points polygons over simple k s w))
      go a same none k s w (inr (inr (inr h))) =
          let back : times_used children (s.1, edge_point points polygons (s.1, s.0)) ≡ times_used polygons (s.1, s.0) =
          times-out points polygons over (s.1, s.0) (any-alike s (s.1, s.0) (edges_of polygons) (back-edge s) w.2)
          (back-inside points s w.3) in
          let turned : times_used children (s.1, edge_point points polygons s) ≡ 0 =
          ap (λ (u : ℕ × ℕ). times_used children (reversed u)) (sym (same-pair a _ h)) ∙ none in
          record {
            edge = s;
            end = s.1;
            at_end = second-end s;
            on_boundary = unused-from k s w (sym back ∙ ap (λ (n : ℕ). times_used children (s.1, n)) (back-point points polygons over simple s) ∙ turned);
            inside = w.3;
            named = w.2;
            half = same-back t a _ same h;
          }
