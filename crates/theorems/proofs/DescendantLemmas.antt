-- The descendants of the boundary edges are the boundary edges of their level.
use Rattle.std.proofs.Common.{◌≡◌, ℕ, zero, suc, ◌+◌, length, Bool, true, false, ◌&&◌, nat_eq, refl, ap, sym, ◌∙◌}
use Rattle.std.specs.List.{list_any, list_all}
use Rattle.std.proofs.lemmas.Bool.{and_from, or_left, or_right, eqb-true}
use Rattle.subdiv_model.specs.Polygons.{same_edge}
use Rattle.subdiv_model.specs.Edges.{edges_of, has_end, is_boundary}
use Rattle.subdiv_model.specs.Level.{Level}
use Rattle.subdiv_model.specs.Child.{refined_level}
use Rattle.number_laws.proofs.CountLemmas.{all-flat_map, all-weaker, any-weaker}
use Rattle.number_laws.proofs.ListLemmas.{any-flat_map, any-both}
use Rattle.mesh_laws.proofs.EdgeLemmas.{position-alike}
use Rattle.mesh_laws.proofs.ClosedLemmas.{any-all}
use Rattle.mesh_laws.proofs.ChildBoundaryLemmas.{child-boundary}
use Rattle.mesh_laws.proofs.PointLemmas.{boundary-alike}
use Rattle.level_laws.proofs.HalfLemmas.{point_of}
use Rattle.mask_laws.proofs.BoundaryLemmas.{IsSharpAtBoundary, boundary-named, sharp-levels}
use Rattle.theorems.specs.Descendants.{half_from, two_halves, boundary_descendants}
use Rattle.limit_laws.proofs.HalfEdgeLemmas.{end-kept, end-cases, half-boundary}
use Rattle.limit_laws.proofs.CreaseLemmas.{first-end, second-end}
use Rattle.limit_laws.proofs.PlaceLemmas.{kept-pass}
use Rattle.mesh_laws.proofs.WalkLemmas.{same-tests}

module _ (base : Level) (is : IsSharpAtBoundary base) where
  -- each descendant is an edge of one face
  pub descendants-boundary : (k : ℕ) → list_all (is_boundary (refined_level base k).polygons) (boundary_descendants base k) ≡ true
  descendants-boundary zero = kept-pass (is_boundary base.polygons) (edges_of base.polygons)
  descendants-boundary (suc k) =
      let level = refined_level base k in
      let here = sharp-levels base k is in
      let child = half-boundary level.point_count level.polygons here.over here.simple in
      let test = is_boundary (refined_level base (suc k)).polygons in
      all-flat_map test (two_halves level) (boundary_descendants base k)
      ∙ all-weaker (is_boundary level.polygons) (λ e. list_all test (two_halves level e))
      (λ e on_boundary. and_from _ _ (child e e.0 on_boundary (first-end e)) (and_from _ _ (child e e.1 on_boundary (second-end e)) refl))
      (boundary_descendants base k) (descendants-boundary k)

  -- an edge that is the half of a descendant is one of the two
  half-listed : (level : Level) (t e x : ℕ × ℕ) (v : ℕ) → has_end v e ≡ true → same_edge t (v, point_of level e) ≡ true → same_edge e x ≡ true
      → list_any (same_edge t) (two_halves level x) ≡ true
  half-listed level t e x v at half same =
      let moved : same_edge t (half_from level x v) ≡ true =
      ap (λ n. same_edge t (v, level.point_count + length level.polygons + n)) (sym (position-alike e x (edges_of level.polygons) same)) ∙ half in
      here (nat_eq v x.0) refl moved (end-kept v e x same at)
    where
      here : (first : Bool) → nat_eq v x.0 ≡ first → same_edge t (half_from level x v) ≡ true → has_end v x ≡ true
          → list_any (same_edge t) (two_halves level x) ≡ true
      here true h moved ends = or_left _ _ (ap (λ n. same_edge t (half_from level x n)) (sym (eqb-true v x.0 h)) ∙ moved)
      here false h moved ends =
          or_right _ _ (or_left _ _ (ap (λ n. same_edge t (half_from level x n)) (sym (eqb-true v x.1 (end-cases v x ends h))) ∙ moved))

  -- each edge of one face is a descendant
  boundary-listed : (k : ℕ) (t : ℕ × ℕ) → is_boundary (refined_level base k).polygons t ≡ true
      → list_any (same_edge t) (boundary_descendants base k) ≡ true
  boundary-listed zero t on_boundary =
      any-both (is_boundary base.polygons) (same_edge t) (edges_of base.polygons)
      ∙ any-weaker (same_edge t) (λ x. is_boundary base.polygons x && same_edge t x)
      (λ x same. and_from _ _ (sym (boundary-alike base.polygons is.simple t x same) ∙ on_boundary) same) (edges_of base.polygons)
      (boundary-named base is.simple t on_boundary)
  boundary-listed (suc k) t on_boundary =
      let level = refined_level base k in
      let here = sharp-levels base k is in
      let from = child-boundary level.point_count level.polygons here.over here.simple here.distinct t on_boundary in
      any-flat_map (same_edge t) (two_halves level) (boundary_descendants base k)
      ∙ any-weaker (same_edge from.edge) (λ x. list_any (same_edge t) (two_halves level x))
      (λ x same. half-listed level t from.edge x from.end from.at_end from.half same) (boundary_descendants base k)
      (boundary-listed k from.edge from.on_boundary)

  -- the descendants are exactly the edges of one face
  pub descendants-exact : (k : ℕ) (t : ℕ × ℕ)
      → list_any (same_edge t) (boundary_descendants base k) ≡ is_boundary (refined_level base k).polygons t
  descendants-exact k t =
      same-tests _ _
      (λ there.
      let found = any-all (same_edge t) (is_boundary (refined_level base k).polygons) (boundary_descendants base k) there (descendants-boundary k) in
      boundary-alike (refined_level base k).polygons (sharp-levels base k is).simple t found.0 found.1 ∙ found.2)
      (boundary-listed k t)
