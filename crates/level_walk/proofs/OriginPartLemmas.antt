-- The parts of a parent that the points and the edges of a child come from.
use Rattle.std.proofs.Common.{◌≡◌, ℕ, ◌<◌, true, nat_lt, List, length, get_or, arith, ap, sym, ◌∙◌, subst}
use Rattle.std.proofs.lemmas.Bool.{and_parts, ltb-true}
use Rattle.std.proofs.lemmas.List.{length-map}
use Rattle.subdiv_model.specs.Polygons.{Polygon, is_over}
use Rattle.subdiv_model.specs.Edges.{all_sides, edges_of}
use Rattle.mesh_laws.proofs.ChildCountLemmas.{is_inside, sides-inside}
use Rattle.mesh_laws.proofs.ClosedLemmas.{all-at, first_named-all}
use Rattle.level_laws.proofs.WellFormedLemmas.{first-of-six}
use Rattle.level_topology.specs.Topology.{Topology, edge_at}
use Rattle.level_topology.specs.Child.{PointOrigin, FromVertex, FromFace, FromEdge, IsOriginWithin, ChildTopology, HasParent}
use Rattle.level_topology.specs.ChildLaws.{point_origin}
use Rattle.level_walk.specs.Origins.{part_of_edge}

-- the ends of an edge are points
pub ends-inside : (points : ℕ) (polygons : List Polygon) → is_over points polygons ≡ true → (e : ℕ) (d : ℕ × ℕ) → e < length (edges_of polygons)
    → ((get_or (edges_of polygons) e d).0 < points) × ((get_or (edges_of polygons) e d).1 < points)
ends-inside points polygons over e d inside =
    let edge : ℕ × ℕ = get_or (edges_of polygons) e d in
    let all = first_named-all (is_inside points) (all_sides polygons) (sides-inside points polygons over) in
    let ends = and_parts (nat_lt edge.0 points) (nat_lt edge.1 points) (all-at (is_inside points) (edges_of polygons) e d inside all) in
    (ltb-true _ _ ends.0, ltb-true _ _ ends.1)

pub ends-exist : (child : ChildTopology) (t : Topology) → HasParent child → t ≡ child.topology → (e : ℕ) → e < length (edges_of child.topology.level.polygons)
    → (ends : ℕ × ℕ) → ends ≡ edge_at t.level.polygons e → (ends.0 < child.topology.level.point_count) × (ends.1 < child.topology.level.point_count)
ends-exist child t has same e inside ends are =
    let level = child.topology.level in
    let is : ends ≡ edge_at level.polygons e = are ∙ ap (λ (t : Topology). edge_at t.level.polygons e) same in
    rw is (ends-inside level.point_count level.polygons (first-of-six _ _ _ _ _ _ has.level_is.formed) e (0, 0) inside)

-- an edge comes from a part of which there is one
pub edge-within : (points faces edges : ℕ) (first second part : PointOrigin) → IsOriginWithin points faces edges first → IsOriginWithin points faces edges second
    → part ≡ part_of_edge first second → IsOriginWithin points faces edges part
edge-within points faces edges first second part one two is = subst (IsOriginWithin points faces edges) (sym is) (go first second one two)
  where
    go : (a b : PointOrigin) → IsOriginWithin points faces edges a → IsOriginWithin points faces edges b → IsOriginWithin points faces edges (part_of_edge a b)
    go (FromFace f) b p q = p
    go (FromVertex v) b p q = q
    go (FromEdge e) (FromFace f) p q = q
    go (FromEdge e) (FromVertex v) p q = p
    go (FromEdge e) (FromEdge d) p q = p

-- a point comes from a part that exists
pub point-within : (child : ChildTopology) (points faces edges : ℕ) → HasParent child → points ≡ child.parent_points → faces ≡ length child.parent_sizes
    → edges ≡ child.parent_edges → (p : ℕ) (part : PointOrigin) → p < child.topology.level.point_count → part ≡ point_origin child p → IsOriginWithin points faces edges part
point-within child points faces edges has one two three p part inside is =
    let count = has.is.each_point in
    let there = has.is.origins_within p (FromVertex 0) (omega (arith, inside, count)) in
    let a : points ≡ has.parent.level.point_count = one ∙ ap (λ (c : ChildTopology). c.parent_points) has.of in
    let b : faces ≡ length has.parent.level.polygons = two ∙ ap (λ (c : ChildTopology). length c.parent_sizes) has.of ∙ length-map has.parent.level.polygons length in
    let d : edges ≡ length (edges_of has.parent.level.polygons) = three ∙ ap (λ (c : ChildTopology). c.parent_edges) has.of in
    rw (is, a, b, d) there
