-- The origins of a whole next level are those of the definitions.
use Rattle.std.proofs.Common.{◌≡◌, ℕ, zero, suc, ◌+◌, ◌-◌, ◌<◌, Bool, true, false, nat_lt, List, [], ◌∷◌, ◌++◌, length, map, get_or, replicate, arith, refl, ap, sym, ◌∙◌}
use Rattle.std.specs.List.{range_with_len}
use Rattle.std.proofs.lemmas.Bool.{ltb-true, ltb-false}
use Rattle.std.proofs.lemmas.List.{map-append, length-map, length-append, get_or-map, get_or_default, get_or_append_left, get_or-append_right}
use Rattle.std.proofs.lemmas.List.FromFn.{get_or-map-range_with_len, fill_by_all}
use Rattle.subdiv_model.specs.Polygons.{Polygon, is_over}
use Rattle.subdiv_model.specs.Edges.{edges_of}
use Rattle.subdiv_model.specs.Level.{Level}
use Rattle.subdiv_model.specs.Child.{child_points, child_polygons}
use Rattle.level_topology.specs.Topology.{Topology}
use Rattle.level_topology.specs.Child.{PointOrigin, FromVertex, ChildTopology}
use Rattle.level_topology.specs.ChildTables.{numbered_origin}
use Rattle.uniform_refiner.specs.Uniform.{all_origins, all_places, origins_in, IsUniform}
use Rattle.level_walk.specs.Origins.{Origin, OnPoint, OnEdge, OnFace, Origins, origin_of_part, part_of_edge, part_of_point, origin_of_edge, next_origins}
use Rattle.level_walk.specs.ChildOrigins.{AreOrigins, origin_of_child_edge, child_origins}
use Rattle.level_walk.proofs.OriginLawLemmas.{by_corners}
use Rattle.level_walk.proofs.OriginPartLemmas.{ends-inside}

map-twice : {X Y Z : Type 0} (f : Y → Z) (g : X → Y) (xs : List X) → map f (map g xs) ≡ map (λ x. f (g x)) xs
map-twice f g [] = refl
map-twice f g (x ∷ xs) = ap (λ ys. f (g x) ∷ ys) (map-twice f g xs)

-- two functions that agree on each item give the same list
map-alike : {X Y : Type 0} (f g : X → Y) (d : X) (xs : List X) → ((i : ℕ) → i < length xs → f (get_or xs i d) ≡ g (get_or xs i d)) → map f xs ≡ map g xs
map-alike f g d [] same = refl
map-alike {X} {Y} f g d (x ∷ xs) same = join (same 0 (omega arith)) (map-alike f g d xs (λ i h. same (suc i) (omega (arith, h))))
  where
    join : {y z : Y} {ys zs : List Y} → y ≡ z → ys ≡ zs → y ∷ ys ≡ z ∷ zs
    join p q = cc

-- each corner of a face has the face's
corners-of : (of : ℕ → ℕ) (face a n : ℕ) → map (λ (place : ℕ × ℕ). of place.0) (map (λ c. (face, c)) (range_with_len a n)) ≡ replicate n (of face)
corners-of of face a zero = refl
corners-of of face a (suc n) = ap (λ xs. of face ∷ xs) (corners-of of face (a + 1) n)

places-of : (of : ℕ → ℕ) (face : ℕ) (polygons : List Polygon) → map (λ (place : ℕ × ℕ). of place.0) (all_places face polygons) ≡ by_corners of face polygons
places-of of face [] = refl
places-of of face (polygon ∷ polygons) =
    let at : ℕ × ℕ → ℕ = λ place. of place.0 in
    let here : List (ℕ × ℕ) = map (λ c. (face, c)) (range_with_len 0 (length polygon)) in
    map-append at here (all_places (face + 1) polygons)
    ∙ ap (λ xs. xs ++ map at (all_places (face + 1) polygons)) (corners-of of face 0 (length polygon))
    ∙ ap (λ xs. replicate (length polygon) (of face) ++ xs) (places-of of (face + 1) polygons)

-- the points in their order: those of the points, of the faces and of the edges
module _ (level : Level) (before : Origins) (each : AreOrigins level before) where
  abbrev points : ℕ
  points = level.point_count

  abbrev faces : ℕ
  faces = length level.polygons

  abbrev edges : ℕ
  edges = length (edges_of level.polygons)

  abbrev behind : List Origin
  behind = map OnFace before.faces ++ before.edges

  item : (n : ℕ) → n < points + faces + edges → get_or (before.points ++ behind) n (OnPoint 0) ≡ origin_of_part before (numbered_origin points faces n)
  item n inside = go (nat_lt n points) (nat_lt (n - points) faces) refl refl
    where
      go : (a b : Bool) → nat_lt n points ≡ a → nat_lt (n - points) faces ≡ b
          → get_or (before.points ++ behind) n (OnPoint 0) ≡ origin_of_part before (numbered_origin points faces n)
      go true b h k =
          rw h (get_or_append_left before.points behind (OnPoint 0) n (omega (arith, ltb-true _ _ h, each.points)))
      go false true h k =
          let low : n - points < length before.faces = omega (arith, ltb-true _ _ k, each.faces) in
          let count = length-map before.faces OnFace in
          rw (h, k) (get_or-append_right before.points behind points n (OnPoint 0) each.points (ltb-false _ _ h)
          ∙ get_or_append_left (map OnFace before.faces) before.edges (OnPoint 0) (n - points) (omega (arith, low, count))
          ∙ get_or-map OnFace before.faces (n - points) 0 (OnPoint 0) low)
      go false false h k =
          let count = length-map before.faces OnFace in
          rw (h, k) (get_or-append_right before.points behind points n (OnPoint 0) each.points (ltb-false _ _ h)
          ∙ get_or-append_right (map OnFace before.faces) before.edges faces (n - points) (OnPoint 0) (count ∙ each.faces) (ltb-false _ _ k)
          ∙ get_or_default before.edges (n - points - faces) (OnPoint 0) (OnEdge 0) (omega (arith, inside, ltb-false _ _ h, ltb-false _ _ k, each.edges)))

  points-are : map (origin_of_part before) (all_origins points faces edges) ≡ before.points ++ behind
  points-are =
      map-twice (origin_of_part before) (numbered_origin points faces) (range_with_len 0 (points + faces + edges))
      ∙ sym (fill_by_all (λ n. origin_of_part before (numbered_origin points faces n)) (before.points ++ behind) (points + faces + edges) (OnPoint 0)
      (omega (arith, length-append before.points behind, length-append (map OnFace before.faces) before.edges, length-map before.faces OnFace, each.points, each.faces, each.edges))
      item)

  -- an edge by the origins of its ends
  edge-is : (child : ChildTopology) → child.origins ≡ all_origins points faces edges → (edge : ℕ × ℕ) → edge.0 < points + faces + edges → edge.1 < points + faces + edges
      → origin_of_child_edge child before edge ≡ origin_of_edge level before edge
  edge-is child are edge first second =
      let at : ℕ → ℕ → PointOrigin = λ n m. get_or (all_origins points faces edges) n (FromVertex 0) in
      ap (λ (origins : List PointOrigin). origin_of_part before (part_of_edge (get_or origins edge.0 (FromVertex 0)) (get_or origins edge.1 (FromVertex 0)))) are
      ∙ ap (λ (part : PointOrigin). origin_of_part before (part_of_edge part (get_or (all_origins points faces edges) edge.1 (FromVertex 0)))) (one edge.0 first)
      ∙ ap (λ (part : PointOrigin). origin_of_part before (part_of_edge (part_of_point level edge.0) part)) (one edge.1 second)
    where
      one : (n : ℕ) → n < points + faces + edges → get_or (all_origins points faces edges) n (FromVertex 0) ≡ numbered_origin points faces n
      one n h = get_or-map-range_with_len (numbered_origin points faces) 0 (points + faces + edges) n n (FromVertex 0) h (omega arith)

pub uniform-origins : (parent : Topology) (child : ChildTopology) (before : Origins) → IsUniform parent child → AreOrigins parent.level before
    → is_over (child_points parent.level.point_count parent.level.polygons) (child_polygons parent.level.point_count parent.level.polygons) ≡ true
    → child_origins child before ≡ next_origins parent.level before
uniform-origins parent child before uniform each over =
    let level = parent.level in
    let quads = child_polygons level.point_count level.polygons in
    let origins : child.origins ≡ origins_in parent = ap (λ (c : ChildTopology). c.origins) uniform.of in
    let places : child.places ≡ all_places 0 level.polygons = ap (λ (c : ChildTopology). c.places) uniform.of in
    let edges : edges_of child.topology.level.polygons ≡ edges_of quads = ap (λ (l : Level). edges_of l.polygons) uniform.level in
    three (ap (map (origin_of_part before)) origins ∙ points-are level before each)
    (ap (map (origin_of_child_edge child before)) edges ∙ map-alike (origin_of_child_edge child before) (origin_of_edge level before) (0, 0) (edges_of quads)
    (λ e h. let ends = ends-inside (child_points level.point_count level.polygons) quads over e (0, 0) h in
    edge-is level before each child origins (get_or (edges_of quads) e (0, 0)) ends.0 ends.1))
    (ap (map (λ (place : ℕ × ℕ). get_or before.faces place.0 0)) places ∙ places-of (λ f. get_or before.faces f 0) 0 level.polygons)
  where
    three : {a b : List Origin} {c d : List Origin} {e f : List ℕ} → a ≡ b → c ≡ d → e ≡ f
        → ◌≡◌ {A = Origins} (record { points = a; edges = c; faces = e }) (record { points = b; edges = d; faces = f })
    three p q r = cc
