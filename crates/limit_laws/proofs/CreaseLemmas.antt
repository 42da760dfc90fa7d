-- Points of the boundary that are creases along it: the new point of a boundary edge is one, and stays one.
use Rattle.std.proofs.Common.{◌≡◌, ℕ, ◌+◌, Bool, true, false, ◌||◌, nat_eq, nat_lt, List, [], ◌∷◌, length, arith, refl, ap, sym, ◌∙◌}
use Rattle.std.specs.List.{list_any, list_all}
use Rattle.std.proofs.lemmas.Bool.Decides.{nat_tests}
use Rattle.std.proofs.lemmas.Bool.{and_parts, eqb-true, ltb-true, cond_both, or_left, or_right, or_parts, or_from, false≢true, false_from_ne_true}
use Rattle.subdiv_model.specs.Polygons.{same_edge}
use Rattle.subdiv_model.specs.Edges.{all_sides, edges_of, has_end, is_boundary}
use Rattle.subdiv_model.specs.Sharpness.{Sharpness, Smooth, Normal, Chaikin, Method, half_child, uniform_child}
use Rattle.subdiv_model.specs.Level.{Level, edge_sharpness_of, vertex_sharpness_of, ring_at}
use Rattle.subdiv_model.specs.Child.{half_sharpness, halves_of, sharpness_among, child_level}
use Rattle.mesh_laws.proofs.ChildCountLemmas.{is_inside, same-edge-point, corner-edge, edge-corner, sides-inside}
use Rattle.mesh_laws.proofs.ClosedLemmas.{first_named-all}
use Rattle.mesh_laws.proofs.SideLemmas.{same_edge-sym}
use Rattle.mesh_laws.proofs.EdgeLemmas.{position-alike}
use Rattle.mesh_laws.proofs.ChildClosedLemmas.{back-edge}
use Rattle.mesh_laws.proofs.PointLemmas.{boundary-alike}
use Rattle.level_laws.proofs.HalfLemmas.{point_of, child_edges, halves_from, child-edge}
use Rattle.level_laws.proofs.NewPointLemmas.{new-smooth, old-uniform}
use Rattle.mask_laws.proofs.BoundaryLemmas.{IsSharpAtBoundary}
use Rattle.limit_laws.proofs.HalfEdgeLemmas.{end-kept, end-cases, children-simple, edge-of-one, half-boundary}

-- the point is smooth, and two edges of one face go from it, to a and to b; every other edge there is smooth
pub record IsCrease (level : Level) (p a b : ℕ) : Type 0 where
  pub smooth : vertex_sharpness_of level p ≡ Smooth
  pub apart : nat_eq a b ≡ false
  pub to_a : is_boundary level.polygons (p, a) ≡ true
  pub to_b : is_boundary level.polygons (p, b) ≡ true
  pub rest : (t : ℕ × ℕ) → has_end p t ≡ true → (same_edge t (p, a) || same_edge t (p, b)) ≡ false → edge_sharpness_of level t ≡ Smooth

-- a smooth edge has smooth halves
pub smooth-half : (method : Method) (ring : List Sharpness) → half_child method ring Smooth ≡ Smooth
smooth-half Normal ring = refl
smooth-half Chaikin ring = refl

-- an edge ends at both its ends
pub first-end : (e : ℕ × ℕ) → has_end e.0 e ≡ true
first-end e = grind (arith, nat_tests)

pub second-end : (e : ℕ × ℕ) → has_end e.1 e ≡ true
second-end e = grind (arith, nat_tests)

-- Edges of the next level that are smooth.

module _ (level : Level) (t : ℕ × ℕ) where
  -- each half of an edge that is the edge t is smooth
  abbrev HasSmoothHalves : Type 0
  HasSmoothHalves = (e : ℕ × ℕ) (v : ℕ) → is_inside level.point_count e ≡ true → has_end v e ≡ true
      → same_edge t (v, point_of level e) ≡ true → half_sharpness level e v ≡ Smooth

  -- the halves give the edge t the sharpness smooth, if each half that is t is smooth
  among-smooth : HasSmoothHalves → (some : List (ℕ × ℕ)) → list_all (is_inside level.point_count) some ≡ true
      → sharpness_among (halves_from level some) t ≡ Smooth
  among-smooth each [] all = refl
  among-smooth each (e ∷ some) all =
      let parts = and_parts (is_inside level.point_count e) (list_all (is_inside level.point_count) some) all in
      let behind = among-smooth each some parts.1 in
      cond_both (same_edge t (e.0, point_of level e)) (half_sharpness level e e.0) _ (λ s. s ≡ Smooth)
      (λ is. each e e.0 parts.0 (first-end e) is)
      (λ _. cond_both (same_edge t (e.1, point_of level e)) (half_sharpness level e e.1) (sharpness_among (halves_from level some) t) (λ s. s ≡ Smooth)
      (λ is. each e e.1 parts.0 (second-end e) is) (λ _. behind))

  -- the edge t of the next level is smooth, if each half that is t is smooth
  child-smooth : IsSharpAtBoundary level → HasSmoothHalves → edge_sharpness_of (child_level level) t ≡ Smooth
  child-smooth is each =
      let inside = first_named-all (is_inside level.point_count) (all_sides level.polygons) (sides-inside level.point_count level.polygons is.over) in
      let none = among-smooth each (edges_of level.polygons) inside in
      child-edge level t
      ∙ cond_both (list_any (same_edge t) (child_edges level)) (sharpness_among (halves_of level) t) Smooth (λ s. s ≡ Smooth) (λ _. none) (λ _. refl)

-- an end of an edge between points is a point
pub end-inside : (points v : ℕ) (e : ℕ × ℕ) → is_inside points e ≡ true → has_end v e ≡ true → nat_lt v points ≡ true
end-inside points v e h k = grind (arith, nat_tests)

-- Pairs with a point in common.

-- the end of an edge that is not the first is the second
other-half : (p n v : ℕ) (t : ℕ × ℕ) → has_end p t ≡ true → same_edge t (v, n) ≡ true → nat_eq p v ≡ false → nat_eq p n ≡ true
other-half p n v t at same other = grind (arith, nat_tests)

-- an edge names itself in the other direction
turned : (t : ℕ × ℕ) (a b : ℕ) → same_edge t (a, b) ≡ true → same_edge t (b, a) ≡ true
turned t a b h = grind (arith, nat_tests)

-- edges from one point to two others are two
pair-apart : (p a b : ℕ) → nat_eq a b ≡ false → same_edge (p, a) (p, b) ≡ false
pair-apart p a b h = grind (arith, nat_tests)

module _ (level : Level) (is : IsSharpAtBoundary level) where
  abbrev points : ℕ
  points = level.point_count

  -- a half of a boundary edge is one of the next level
  child-half : (e : ℕ × ℕ) (v : ℕ) → is_boundary level.polygons e ≡ true → has_end v e ≡ true
      → is_boundary (child_level level).polygons (v, point_of level e) ≡ true
  child-half = half-boundary points level.polygons is.over is.simple

  -- The new point of a boundary edge.

  -- an edge there that is a half of some edge is a half of this one, and goes to an end of it
  half-there : (e s t : ℕ × ℕ) (v : ℕ) → is_boundary level.polygons e ≡ true → has_end (point_of level e) t ≡ true
      → is_inside points s ≡ true → has_end v s ≡ true → same_edge t (v, point_of level s) ≡ true
      → (same_edge t (point_of level e, e.0) || same_edge t (point_of level e, e.1)) ≡ true
  half-there e s t v on_boundary at inside ends same = here (nat_eq v e.0) refl
    where
      old : nat_lt v points ≡ true
      old = end-inside points v s inside ends

      one : nat_eq (point_of level e) (point_of level s) ≡ true
      one = other-half (point_of level e) (point_of level s) v t at same (edge-corner points level.polygons v e old)

      alike : same_edge e s ≡ true
      alike = sym (same-edge-point points level.polygons e s (edge-of-one points level.polygons is.over is.simple e on_boundary).named) ∙ one

      to-end : same_edge t (point_of level e, v) ≡ true
      to-end = turned t v (point_of level e) (ap (λ n. same_edge t (v, n)) (eqb-true _ _ one) ∙ same)

      here : (first : Bool) → nat_eq v e.0 ≡ first → (same_edge t (point_of level e, e.0) || same_edge t (point_of level e, e.1)) ≡ true
      here true h = or_left _ _ (ap (λ n. same_edge t (point_of level e, n)) (sym (eqb-true v e.0 h)) ∙ to-end)
      here false h =
          let second : nat_eq v e.1 ≡ true = end-cases v e (end-kept v s e (same_edge-sym s e ∙ alike) ends) h in
          or_right _ _ (ap (λ n. same_edge t (point_of level e, n)) (sym (eqb-true v e.1 second)) ∙ to-end)

  -- a boundary edge is one in both directions
  turned-boundary : (a b : ℕ) → is_boundary (child_level level).polygons (a, b) ≡ true
      → is_boundary (child_level level).polygons (b, a) ≡ true
  turned-boundary a b h =
      boundary-alike (child_level level).polygons (children-simple points level.polygons is.over is.simple) (b, a) (a, b) (back-edge (b, a)) ∙ h

  -- the new point of a boundary edge is a crease between the ends of the edge
  pub new-crease : (e : ℕ × ℕ) → is_boundary level.polygons e ≡ true → IsCrease (child_level level) (point_of level e) e.0 e.1
  new-crease e on_boundary =
      let one = edge-of-one points level.polygons is.over is.simple e on_boundary in
      record {
        smooth = new-smooth level (point_of level e) (omega arith);
        apart = one.apart;
        to_a = turned-boundary e.0 (point_of level e) (child-half e e.0 on_boundary (first-end e));
        to_b = turned-boundary e.1 (point_of level e) (child-half e e.1 on_boundary (second-end e));
        rest =
            λ t at none.
            child-smooth level t is (λ s v inside ends same. absurd (false≢true (sym none ∙ half-there e s t v on_boundary at inside ends same)));
      }

  -- A crease of the level.

  module _ (p a b : ℕ) (old : nat_lt p points ≡ true) (crease : IsCrease level p a b) where
    -- an edge at the point that is a half, and not one of the two, is a half of a smooth edge
    rest-half : (s t : ℕ × ℕ) (v : ℕ) → has_end p t ≡ true
        → (same_edge t (p, point_of level (p, a)) || same_edge t (p, point_of level (p, b))) ≡ false
        → has_end v s ≡ true → same_edge t (v, point_of level s) ≡ true → half_sharpness level s v ≡ Smooth
    rest-half s t v at none ends same =
        let parts = or_parts _ _ none in
        let one : p ≡ v = eqb-true p v (other-half p v (point_of level s) t at (turned t v (point_of level s) same) (corner-edge points level.polygons p s old)) in
        let ends_p : has_end p s ≡ true = ap (λ n. has_end n s) one ∙ ends in
        let same_p : same_edge t (p, point_of level s) ≡ true = ap (λ n. same_edge t (n, point_of level s)) one ∙ same in
        let first : same_edge s (p, a) ≡ false =
        false_from_ne_true _ (λ k. false≢true (sym parts.0 ∙ ap (λ n. same_edge t (p, n)) (sym (point-alike s (p, a) k)) ∙ same_p)) in
        let second : same_edge s (p, b) ≡ false =
        false_from_ne_true _ (λ k. false≢true (sym parts.1 ∙ ap (λ n. same_edge t (p, n)) (sym (point-alike s (p, b) k)) ∙ same_p)) in
        let plain : edge_sharpness_of level s ≡ Smooth = crease.rest s ends_p (or_from _ _ first second) in
        ap (half_child level.method (ring_at level v)) plain ∙ smooth-half level.method (ring_at level v)
      where
        point-alike : (s t : ℕ × ℕ) → same_edge s t ≡ true → point_of level s ≡ point_of level t
        point-alike s t h = ap (λ n. points + length level.polygons + n) (position-alike s t (edges_of level.polygons) h)

    -- a crease stays one, between the new points of its two edges
    pub old-crease : IsCrease (child_level level) p (point_of level (p, a)) (point_of level (p, b))
    old-crease =
        let one = edge-of-one points level.polygons is.over is.simple (p, a) crease.to_a in
        record {
          smooth = old-uniform level p (ltb-true p points old) ∙ ap uniform_child crease.smooth;
          apart = same-edge-point points level.polygons (p, a) (p, b) one.named ∙ pair-apart p a b crease.apart;
          to_a = child-half (p, a) p crease.to_a (first-end (p, a));
          to_b = child-half (p, b) p crease.to_b (first-end (p, b));
          rest = λ t at none. child-smooth level t is (λ s v inside ends same. rest-half s t v at none ends same);
        }
