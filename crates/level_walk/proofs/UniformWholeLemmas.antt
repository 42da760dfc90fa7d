-- The next level of a whole one is whole again.
use Rattle.std.proofs.Common.{◌≡◌, ◌+◌, ◌*◌, ◌≤◌, true, nat_le, List, [], ◌∷◌, length, replicate, Result, Ok, Err, IfOk, MatchResult, arith, ap, sym, ◌∙◌, subst, IsTrue}
use Rattle.std.specs.List.{list_all, sum_by}
use Rattle.std.proofs.lemmas.Bool.{and_parts, leb-true}
use Rattle.std.proofs.lemmas.List.Sums.{sum_by-cons}
use Rattle.subdiv_model.specs.Polygons.{Polygon, is_distinct}
use Rattle.subdiv_model.specs.Edges.{edges_of}
use Rattle.subdiv_model.specs.Manifold.{is_simple}
use Rattle.subdiv_model.specs.Level.{Level}
use Rattle.level_laws.proofs.FaceLemmas.{child_polygons-length}
use Rattle.level_laws.proofs.WellFormedLemmas.{first-of-six}
use Rattle.mask_laws.specs.SharpBoundary.{has_sharp_boundary}
use Rattle.mask_laws.proofs.BoundaryLemmas.{sharp-child}
use Rattle.level_topology.specs.Topology.{Topology, IsTopology}
use Rattle.level_topology.specs.Child.{ChildTopology}
use Rattle.level_topology.proofs.ChildLemmas.{edges-corners}
use Rattle.uniform_refiner.specs.Refined.{IsRefined}
use Rattle.level_walk.specs.UniformStep.{IsWhole}

-- a weaker claim about the value of a result
pub where-ok : {A B : Type 0} (r : Result A B) (P : A → Type 0) (Q : B → Type 0) (P' : A → Type 0) → MatchResult r P Q → ((x : A) → P x → P' x) → IfOk r P'
where-ok (Ok x) P Q P' is follows = follows x is
where-ok (Err f) P Q P' is follows = tt

-- a face has three corners or more
three-each : (polygons : List Polygon) → list_all is_simple polygons ≡ true → 3 * length polygons ≤ sum_by length polygons
three-each [] simple = omega arith
three-each (polygon ∷ polygons) simple =
    let parts = and_parts (is_simple polygon) (list_all is_simple polygons) simple in
    let long = leb-true 3 (length polygon) (and_parts (nat_le 3 (length polygon)) (is_distinct polygon) parts.0).0 in
    let count : sum_by length (polygon ∷ polygons) ≡ length polygon + sum_by length polygons = sum_by-cons length polygon polygons in
    omega (arith, count, long, three-each polygons parts.1)

module _ (parent : Topology) (child : ChildTopology) (refined : IsRefined parent child) (is : IsTopology parent) (whole : IsWhole parent) where
  next-points : child.topology.level.point_count ≡ parent.level.point_count + length parent.level.polygons + length (edges_of parent.level.polygons)
  next-points = ap (λ (level : Level). level.point_count) refined.uniform.level

  next-faces : length child.topology.level.polygons ≡ sum_by length parent.level.polygons
  next-faces = ap (λ (level : Level). length level.polygons) refined.uniform.level ∙ child_polygons-length parent.level.point_count parent.level.polygons

  pub whole-next : IsWhole child.topology
  whole-next = record {
    complete = refined.uniform.complete ∙ ap (λ (level : Level). replicate level.point_count true) (sym refined.uniform.level);
    points = omega (arith, next-points, next-faces, whole.points, three-each parent.level.polygons is.simple, edges-corners parent.level.polygons);
    boundary =
        subst (λ (level : Level). IsTrue (has_sharp_boundary level)) (sym refined.uniform.level)
        (sharp-child parent.level (record { over = first-of-six _ _ _ _ _ _ is.formed; simple = is.simple; distinct = is.sides_once; sharp = whole.boundary })).sharp;
  }
