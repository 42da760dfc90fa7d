-- The points and the faces of the next level have their origins and their places, each its own.
use Rattle.std.proofs.Common.{◌≡◌, ℕ, ◌+◌, ◌-◌, ◌<◌, true, false, nat_lt, List, [], ◌∷◌, length, get_or, arith, refl, ap, sym, ◌∙◌, subst}
use Rattle.std.specs.List.{sum_by}
use Rattle.std.proofs.lemmas.Bool.{lt-ltb, le-ltb}
use Rattle.std.proofs.lemmas.List.FromFn.{get_or-map-range_with_len, length-map-range_with_len}
use Rattle.subdiv_model.specs.Polygons.{Polygon, polygon_at}
use Rattle.subdiv_model.specs.Edges.{edges_of}
use Rattle.subdiv_model.specs.Child.{child_polygons, child_level}
use Rattle.subdiv_model.specs.Level.{Level}
use Rattle.level_laws.proofs.FaceLemmas.{child_polygons-length}
use Rattle.level_topology.specs.Topology.{Topology, IsTopology}
use Rattle.level_topology.specs.Child.{PointOrigin, FromVertex, FromFace, FromEdge, IsOriginWithin, IsPlaceWithin, IsChild, origins_along, corner_origins}
use Rattle.level_topology.specs.ChildTables.{numbered_origin, point_number}
use Rattle.level_topology.proofs.ChildLemmas.{number-of-origin, origin-within}
use Rattle.level_topology.proofs.LawLemmas.{edge-exists}
use Rattle.child_slots.specs.Slots.{first_child, corner_at, edge_from, before_in, quad_at, numbered_edge_point}
use Rattle.uniform_refiner.specs.Uniform.{all_origins, all_places, origins_in}
use Rattle.child_slots.proofs.SlotLemmas.{before-within}
use Rattle.child_slots.proofs.QuadLemmas.{child-quad, face-below}
use Rattle.uniform_refiner.proofs.PlaceLemmas.{places-count, place-item}
use Rattle.uniform_refiner.proofs.FacePointLemmas.{corner-low}

-- an origin by its number
origin-vertex : (points faces v : ℕ) → v < points → numbered_origin points faces v ≡ FromVertex v
origin-vertex points faces v h = let low = lt-ltb v points h in rw low refl

origin-face : (points faces f : ℕ) → f < faces → numbered_origin points faces (points + f) ≡ FromFace f
origin-face points faces f h =
    let n : points + f - points ≡ f = omega arith in
    let high = le-ltb (points + f) points (omega arith) in
    let low : nat_lt (points + f - points) faces ≡ true = lt-ltb (points + f - points) faces (omega (arith, n, h)) in
    rw (high, low) (ap FromFace n)

origin-edge : (points faces e : ℕ) → numbered_origin points faces (points + faces + e) ≡ FromEdge e
origin-edge points faces e =
    let n : points + faces + e - points - faces ≡ e = omega arith in
    let high = le-ltb (points + faces + e) points (omega arith) in
    let past : nat_lt (points + faces + e - points) faces ≡ false = le-ltb (points + faces + e - points) faces (omega arith) in
    rw (high, past) (ap FromEdge n)

-- the origin of a point, whatever is given in its place
origin-at : (points faces edges n : ℕ) (d : PointOrigin) → n < points + faces + edges → get_or (all_origins points faces edges) n d ≡ numbered_origin points faces n
origin-at points faces edges n d h = get_or-map-range_with_len (numbered_origin points faces) 0 (points + faces + edges) n n d h (omega arith)

module _ (t : Topology) (is : IsTopology t) where
  abbrev points : ℕ
  points = t.level.point_count

  abbrev polygons : List Polygon
  polygons = t.level.polygons

  abbrev faces : ℕ
  faces = length t.level.polygons

  abbrev edges : ℕ
  edges = length (edges_of t.level.polygons)

  origin-item : (n : ℕ) → n < points + faces + edges → get_or (origins_in t) n (FromVertex 0) ≡ numbered_origin points faces n
  origin-item n h = origin-at points faces edges n (FromVertex 0) h

  -- the corners of a child face come from the corner, the edges and the face that they should
  corners-along : (f c : ℕ) → c < length (polygon_at polygons f) → origins_along (origins_in t) (quad_at points polygons f c) ≡ corner_origins polygons (f, c)
  corners-along f c h =
      let there = face-below polygons f c h in
      let b = before_in polygons f c in
      let v = corner_at polygons f c in
      let e = edge_from polygons f c in
      let d = edge_from polygons f b in
      let low = corner-low t is f c there h in
      let e_low = edge-exists polygons f c h in
      let d_low = edge-exists polygons f b (before-within polygons f c h) in
      four (origin-item v (omega (arith, low)) ∙ origin-vertex points faces v low)
      (origin-item (numbered_edge_point points polygons e) (omega (arith, e_low)) ∙ origin-edge points faces e)
      (origin-item (points + f) (omega (arith, there)) ∙ origin-face points faces f there)
      (origin-item (numbered_edge_point points polygons d) (omega (arith, d_low)) ∙ origin-edge points faces d)
    where
      four : {i i' j j' k k' l l' : PointOrigin} → i ≡ i' → j ≡ j' → k ≡ k' → l ≡ l' → i ∷ j ∷ k ∷ l ∷ [] ≡ i' ∷ j' ∷ k' ∷ l' ∷ []
      four p q r s = cc

  pub uniform-child : (level : Topology) → level.level ≡ child_level t.level → IsChild t level (origins_in t) (all_places 0 t.level.polygons)
  uniform-child level same =
      let count : length (origins_in t) ≡ points + faces + edges = length-map-range_with_len (numbered_origin points faces) 0 (points + faces + edges) in
      let quads : level.level.polygons ≡ child_polygons points polygons = ap (λ (l : Level). l.polygons) same in
      record {
        each_point = count ∙ sym (ap (λ (l : Level). l.point_count) same);
        each_face = places-count 0 polygons ∙ sym (ap length quads ∙ child_polygons-length points polygons);
        origins_within = λ n d h.
            let inside : n < points + faces + edges = omega (arith, h, count) in
            subst (IsOriginWithin points faces edges) (sym (origin-at points faces edges n d inside)) (origin-within points faces edges n inside);
        places_within = λ k d h.
            let item = place-item polygons k d (omega (arith, h, places-count 0 polygons)) in
            subst (IsPlaceWithin polygons) (sym item.4) item.2;
        origins_once = λ i j d less h alike.
            let far : j < points + faces + edges = omega (arith, h, count) in
            let near : i < points + faces + edges = omega (arith, far, less) in
            let numbers : i ≡ j = sym (number-of-origin points faces i) ∙ ap (point_number points faces) (sym (origin-at points faces edges i d near) ∙ alike ∙ origin-at points faces edges j d far) ∙ number-of-origin points faces j in
            absurd (omega (arith, numbers, less));
        places_once = λ i j d less h alike.
            let far : j < sum_by length polygons = omega (arith, h, places-count 0 polygons) in
            let one = place-item polygons i d (omega (arith, far, less)) in
            let two = place-item polygons j d far in
            let pairs : (one.0, one.1) ≡ (two.0, two.1) = sym one.4 ∙ alike ∙ two.4 in
            let numbers : i ≡ j = one.3 ∙ ap (λ (p : ℕ × ℕ). first_child polygons p.0 + p.1) pairs ∙ sym two.3 in
            absurd (omega (arith, numbers, less));
        corners = λ k h.
            let item = place-item polygons k (0, 0) (omega (arith, h, places-count 0 polygons)) in
            let quad : polygon_at level.level.polygons k ≡ quad_at points polygons item.0 item.1 = ap (λ qs. polygon_at qs k) quads ∙ ap (polygon_at (child_polygons points polygons)) item.3 ∙ child-quad points polygons item.0 item.1 (face-below polygons item.0 item.1 item.2) item.2 in
            ap (origins_along (origins_in t)) quad ∙ corners-along item.0 item.1 item.2 ∙ ap (corner_origins polygons) (sym item.4);
      }
