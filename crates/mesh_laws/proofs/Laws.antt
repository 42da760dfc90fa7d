-- The laws, stated for a manifold over a number of points.
use Rattle.std.proofs.Common.{zero, suc, ◌≡◌, ℕ, ◌<◌, ◌≤◌, true, ◌&&◌, nat_eq, nat_lt, List, length, get_or, arith, IsTrue}
use Rattle.std.specs.List.{All, list_all, list_any, count_by}
use Rattle.std.proofs.lemmas.Bool.{and_parts, eqb-true, ltb-true}
use Rattle.std.proofs.lemmas.List.Sums.{list_all-from_AllPass, AllPass-from_list_all}
use Rattle.subdiv_model.specs.Polygons.{Polygon, same_side, same_edge, is_distinct, is_over, has_distinct_sides}
use Rattle.subdiv_model.specs.Edges.{all_sides, edges_of, faces_of_edge, is_closed, goes_both_ways}
use Rattle.subdiv_model.specs.Manifold.{IsManifold, is_simple}
use Rattle.subdiv_model.specs.Child.{child_polygons, child_points, refined_level}
use Rattle.subdiv_model.specs.Level.{Level}
use Rattle.number_laws.proofs.CountLemmas.{count-some}
use Rattle.mesh_laws.proofs.EdgeLemmas.{all-named, first_named-once}
use Rattle.mesh_laws.proofs.ChildFaceLemmas.{is_child, all-child, child-simple, child-over}
use Rattle.mesh_laws.proofs.ClosedLemmas.{all-at, closed-both, sides-pass, first_named-all}
use Rattle.mesh_laws.proofs.ChildClosedLemmas.{child-closed}
use Rattle.mesh_laws.proofs.ChildOnceLemmas.{child-distinct}
use Rattle.mesh_laws.proofs.EdgeFanLemmas.{child-fans}
use Rattle.mesh_laws.proofs.FaultLemmas.{edge-faces}

-- each side's edge is listed once
pub named-once : (polygons : List Polygon) → All (λ side. count_by (same_edge side) (edges_of polygons) ≡ 1) (all_sides polygons)
named-once polygons k d h =
    let s : ℕ × ℕ = get_or (all_sides polygons) k d in
    let there : list_any (same_edge s) (edges_of polygons) ≡ true = all-at (λ t. list_any (same_edge t) (edges_of polygons)) (all_sides polygons) k d h (all-named (all_sides polygons)) in
    let some = count-some (same_edge s) (edges_of polygons) there in
    let most = first_named-once s (all_sides polygons) in
    omega arith

-- each edge is listed in the direction of one of the sides
pub listed-as-side : (polygons : List Polygon) → All (λ edge. IsTrue (list_any (same_side edge) (all_sides polygons))) (edges_of polygons)
listed-as-side polygons k d h =
    all-at (λ e. list_any (same_side e) (all_sides polygons)) (edges_of polygons) k d h (first_named-all (λ e. list_any (same_side e) (all_sides polygons)) (all_sides polygons) (sides-pass (λ e. list_any (same_side e) (all_sides polygons)) polygons (λ a there. there)))

pub all-simple : (points : ℕ) (polygons : List Polygon) → IsManifold points polygons → list_all is_simple polygons ≡ true
all-simple points polygons is = list_all-from_AllPass is_simple polygons is.simple

pub manifold-edges : (points : ℕ) (polygons : List Polygon) → IsManifold points polygons → All (λ edge. (1 ≤ length (faces_of_edge polygons edge)) × (length (faces_of_edge polygons edge) ≤ 2)) (edges_of polygons)
manifold-edges points polygons is = edge-faces polygons (all-simple points polygons is) is.sides_once

pub manifold-both : (points : ℕ) (polygons : List Polygon) → IsManifold points polygons → IsTrue (is_closed polygons) → IsTrue (goes_both_ways polygons)
manifold-both points polygons is closed = closed-both polygons (all-simple points polygons is) is.sides_once closed

pub manifold-quads : (points : ℕ) (polygons : List Polygon) → IsTrue (is_over points polygons) → IsManifold points polygons → All (λ quad. (length quad ≡ 4) × IsTrue (is_distinct quad) × All (λ v. v < child_points points polygons) quad) (child_polygons points polygons)
manifold-quads points polygons over is k d h =
    let quad : Polygon = get_or (child_polygons points polygons) k d in
    let here : is_child points polygons quad ≡ true = all-at (is_child points polygons) (child_polygons points polygons) k d h (all-child points polygons over (all-simple points polygons is)) in
    let parts = and_parts (nat_eq (length quad) 4 && is_distinct quad) (list_all (λ v. nat_lt v (child_points points polygons)) quad) here in
    let shape = and_parts (nat_eq (length quad) 4) (is_distinct quad) parts.0 in
    (eqb-true (length quad) 4 shape.0, shape.1, λ i e inside. ltb-true _ _ (all-at (λ v. nat_lt v (child_points points polygons)) quad i e inside parts.1))

pub manifold-child : (points : ℕ) (polygons : List Polygon) → IsTrue (is_over points polygons) → IsManifold points polygons → IsTrue (is_closed polygons) → IsTrue (goes_both_ways (child_polygons points polygons)) × IsTrue (is_closed (child_polygons points polygons))
manifold-child points polygons over is closed = child-closed points polygons over (all-simple points polygons is) is.sides_once closed

-- the next level of a manifold is a manifold
pub next-manifold : (points : ℕ) (polygons : List Polygon) → IsTrue (is_over points polygons) → IsManifold points polygons → IsManifold (child_points points polygons) (child_polygons points polygons)
next-manifold points polygons over is =
    let simple = all-simple points polygons is in
    let quads = child-simple points polygons (child_polygons points polygons) (all-child points polygons over simple) in
    record {
      simple = AllPass-from_list_all is_simple (child_polygons points polygons) quads;
      sides_once = child-distinct points polygons over simple is.sides_once;
      fans = λ x inside. child-fans points polygons simple over is.sides_once is.fans x;
    }

-- each level of a manifold is a manifold
pub manifold-levels : (level : Level) (k : ℕ) → IsTrue (is_over level.point_count level.polygons) → IsManifold level.point_count level.polygons → IsTrue (is_over (refined_level level k).point_count (refined_level level k).polygons) × IsManifold (refined_level level k).point_count (refined_level level k).polygons
manifold-levels level zero over is = (over, is)
manifold-levels level (suc k) over is =
    let behind = manifold-levels level k over is in
    let points = (refined_level level k).point_count in
    let polygons = (refined_level level k).polygons in
    (child-over points polygons (child_polygons points polygons) (all-child points polygons behind.0 (all-simple points polygons behind.1)), next-manifold points polygons behind.0 behind.1)

-- what the child of a closed list of simple polygons keeps
pub record IsClosed (points : ℕ) (polygons : List Polygon) : Type 0 where
  pub over : is_over points polygons ≡ true
  pub simple : list_all is_simple polygons ≡ true
  pub distinct : has_distinct_sides (all_sides polygons) ≡ true
  pub closed : is_closed polygons ≡ true

closed-child : (points : ℕ) (polygons : List Polygon) → IsClosed points polygons → IsClosed (child_points points polygons) (child_polygons points polygons)
closed-child points polygons is =
    let quads = all-child points polygons is.over is.simple in
    let simple = child-simple points polygons (child_polygons points polygons) quads in
    let closed = child-closed points polygons is.over is.simple is.distinct is.closed in
    record {
      over = child-over points polygons (child_polygons points polygons) quads;
      simple = simple;
      distinct = child-distinct points polygons is.over is.simple is.distinct;
      closed = closed.1;
    }

pub closed-levels : (level : Level) (k : ℕ) → IsClosed level.point_count level.polygons → IsClosed (refined_level level k).point_count (refined_level level k).polygons
closed-levels level zero is = is
closed-levels level (suc k) is = closed-child (refined_level level k).point_count (refined_level level k).polygons (closed-levels level k is)

-- each level of a closed manifold is closed
pub levels-closed : (level : Level) (k : ℕ) → IsTrue (is_over level.point_count level.polygons) → IsManifold level.point_count level.polygons → IsTrue (is_closed level.polygons) → IsTrue (is_over (refined_level level k).point_count (refined_level level k).polygons) × IsTrue (is_closed (refined_level level k).polygons) × IsTrue (goes_both_ways (refined_level level k).polygons)
levels-closed level k over is closed =
    let here = closed-levels level k (record { over = over; simple = all-simple level.point_count level.polygons is; distinct = is.sides_once; closed = closed }) in
    (here.over, here.closed, closed-both (refined_level level k).polygons here.simple here.distinct here.closed)
