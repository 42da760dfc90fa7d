-- Each origin of a level is a part of level 0.
use Rattle.std.proofs.Common.{◌≡◌, ℕ, zero, suc, ◌+◌, ◌-◌, ◌<◌, ◌≤◌, Bool, true, false, nat_lt, List, [], ◌∷◌, ◌++◌, length, map, get_or, replicate, arith, refl, sym, ◌∙◌, IsTrue}
use Rattle.std.specs.List.{All, flat_map, sum_by, range_with_len, enumerate_from}
use Rattle.std.proofs.lemmas.Bool.{ltb-true, ltb-false}
use Rattle.std.proofs.lemmas.List.{length-map, length-append, length-replicate, get_or_append_left}
use Rattle.std.proofs.lemmas.List.FromFn.{length-range_with_len, length-map-range_with_len, get_or-range_with_len, get_or-map-range_with_len}
use Rattle.std.proofs.lemmas.List.Elements.{All-nil, All-append, All-map, All-replicate}
use Rattle.std.proofs.lemmas.List.Sums.{sum_by-cons}
use Rattle.subdiv_model.specs.Polygons.{Polygon, is_over}
use Rattle.subdiv_model.specs.Edges.{edges_of}
use Rattle.subdiv_model.specs.Level.{Level}
use Rattle.subdiv_model.specs.Child.{child_points, child_polygons, child_level, refined_level}
use Rattle.mesh_laws.proofs.ChildOverLemmas.{levels-over-points}
use Rattle.level_laws.proofs.FaceLemmas.{child_polygons-length}
use Rattle.level_topology.specs.Child.{PointOrigin, FromVertex, FromFace, FromEdge, IsOriginWithin}
use Rattle.level_topology.specs.ChildTables.{numbered_origin}
use Rattle.level_walk.specs.Origins.{OnPoint, OnEdge, OnFace, Origins, origin_of_part, part_of_edge, part_of_point, origin_of_edge, next_origins, origins_to}
use Rattle.level_walk.specs.ChildOrigins.{AreOrigins}
use Rattle.level_walk.specs.OriginLaws.{IsPart, AreParts}
use Rattle.level_walk.proofs.OriginPartLemmas.{ends-inside, edge-within}

-- one for each corner of each face
abbrev pub by_corners : (ℕ → ℕ) → ℕ → List Polygon → List ℕ
by_corners of place polygons = flat_map (λ face. replicate (length face.1) (of face.0)) (enumerate_from place polygons)

corners-count : (of : ℕ → ℕ) (place : ℕ) (polygons : List Polygon) → length (by_corners of place polygons) ≡ sum_by length polygons
corners-count of place [] = refl
corners-count of place (polygon ∷ polygons) =
    omega (
      arith,
      length-append (replicate (length polygon) (of place)) (by_corners of (place + 1) polygons),
      length-replicate (length polygon) (of place),
      corners-count of (place + 1) polygons,
      sum_by-cons length polygon polygons,
    )

corners-all : (P : ℕ → Type 0) (of : ℕ → ℕ) (place : ℕ) (polygons : List Polygon) → ((i : ℕ) → i < place + length polygons → P (of i)) → All P (by_corners of place polygons)
corners-all P of place [] each = All-nil P
corners-all P of place (polygon ∷ polygons) each =
    All-append P (replicate (length polygon) (of place)) (by_corners of (place + 1) polygons)
    (All-replicate P (length polygon) (of place) (each place (omega arith)))
    (corners-all P of (place + 1) polygons (λ i h. each i (omega (arith, h))))

-- there is an origin for each point, each edge and each face of the next level
next-each : (level : Level) (before : Origins) → AreOrigins level before → AreOrigins (child_level level) (next_origins level before)
next-each level before are = record {
  points =
      omega (
        arith,
        length-append before.points (map OnFace before.faces ++ before.edges),
        length-append (map OnFace before.faces) before.edges,
        length-map before.faces OnFace,
        are.points,
        are.edges,
        are.faces,
      );
  edges = length-map (edges_of (child_polygons level.point_count level.polygons)) (origin_of_edge level before);
  faces = corners-count (λ f. get_or before.faces f 0) 0 level.polygons ∙ sym (child_polygons-length level.point_count level.polygons);
}

pub origins-each : (base : Level) (k : ℕ) → AreOrigins (refined_level base k) (origins_to base k)
origins-each base zero = record {
  points = length-map-range_with_len OnPoint 0 base.point_count;
  edges = length-map-range_with_len OnEdge 0 (length (edges_of base.polygons));
  faces = length-range_with_len 0 (length base.polygons);
}
origins-each base (suc k) = next-each (refined_level base k) (origins_to base k) (origins-each base k)

-- a point of the next level comes from a part of the level
part-within : (points faces edges p : ℕ) → p < points + faces + edges → IsOriginWithin points faces edges (numbered_origin points faces p)
part-within points faces edges p inside = go (nat_lt p points) (nat_lt (p - points) faces) refl refl
  where
    go : (a b : Bool) → nat_lt p points ≡ a → nat_lt (p - points) faces ≡ b → IsOriginWithin points faces edges (numbered_origin points faces p)
    go true b h k = rw h (ltb-true _ _ h)
    go false true h k = rw (h, k) (ltb-true _ _ k)
    go false false h k = rw (h, k) (omega (arith, inside, ltb-false _ _ h, ltb-false _ _ k))

module _ (base level : Level) (before : Origins) (each : AreOrigins level before) (are : AreParts base before) where
  part-is : (part : PointOrigin) → IsOriginWithin level.point_count (length level.polygons) (length (edges_of level.polygons)) part → IsPart base (origin_of_part before part)
  part-is (FromVertex v) h = are.points v (OnPoint 0) (omega (arith, h, each.points))
  part-is (FromFace f) h = are.faces f 0 (omega (arith, h, each.faces))
  part-is (FromEdge e) h = are.edges e (OnEdge 0) (omega (arith, h, each.edges))

  edge-is : (edge : ℕ × ℕ) → edge.0 < child_points level.point_count level.polygons
      → edge.1 < child_points level.point_count level.polygons → IsPart base (origin_of_edge level before edge)
  edge-is edge first second =
      let faces = length level.polygons in
      let edges = length (edges_of level.polygons) in
      part-is (part_of_edge (part_of_point level edge.0) (part_of_point level edge.1))
      (edge-within level.point_count faces edges (part_of_point level edge.0) (part_of_point level edge.1) _ (part-within level.point_count faces edges edge.0 first)
      (part-within level.point_count faces edges edge.1 second) refl)

  next-parts : is_over (child_points level.point_count level.polygons) (child_polygons level.point_count level.polygons) ≡ true → AreParts base (next_origins level before)
  next-parts over = record {
    points =
        All-append (IsPart base) before.points (map OnFace before.faces ++ before.edges) are.points
        (All-append (IsPart base) (map OnFace before.faces) before.edges (All-map (IsPart base) OnFace before.faces are.faces) are.edges);
    edges =
        let quads = child_polygons level.point_count level.polygons in
        All-map (IsPart base) (origin_of_edge level before) (edges_of quads)
        (λ e d h. let ends = ends-inside (child_points level.point_count level.polygons) quads over e d h in edge-is (get_or (edges_of quads) e d) ends.0 ends.1);
    faces =
        corners-all (λ f. f < length base.polygons) (λ f. get_or before.faces f 0) 0 level.polygons
        (λ i h. are.faces i 0 (omega (arith, h, each.faces)));
  }

-- each origin is a part of level 0
pub origins-parts : (base : Level) (k : ℕ) → IsTrue (is_over base.point_count base.polygons) → AreParts base (origins_to base k)
origins-parts base zero over = record {
  points = All-map (IsPart base) OnPoint (range_with_len 0 base.point_count) (range-below base.point_count);
  edges = All-map (IsPart base) OnEdge (range_with_len 0 (length (edges_of base.polygons))) (range-below (length (edges_of base.polygons)));
  faces = range-below (length base.polygons);
}
  where
    range-below : (n : ℕ) → All (λ i. i < n) (range_with_len 0 n)
    range-below n i d h =
        let inside : i < n = omega (arith, h, length-range_with_len 0 n) in
        omega (arith, get_or-range_with_len 0 n i d inside, inside)
origins-parts base (suc k) over =
    next-parts base (refined_level base k) (origins_to base k) (origins-each base k) (origins-parts base k over) (levels-over-points base (suc k) over)

-- the points of a level come first in the next
points-rise : (base : Level) (k : ℕ) → base.point_count ≤ (refined_level base k).point_count
points-rise base zero = omega arith
points-rise base (suc k) = omega (arith, points-rise base k)

pub own-points : (base : Level) (k v : ℕ) → v < base.point_count → get_or (origins_to base k).points v (OnPoint 0) ≡ OnPoint v
own-points base zero v h = get_or-map-range_with_len OnPoint 0 base.point_count v v (OnPoint 0) h (omega arith)
own-points base (suc k) v h =
    let before = origins_to base k in
    get_or_append_left before.points (map OnFace before.faces ++ before.edges) (OnPoint 0) v (omega (arith, h, points-rise base k, (origins-each base k).points))
    ∙ own-points base k v h
