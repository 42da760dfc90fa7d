-- The next level is a child: its points have their origins and its faces their places.
use Rattle.std.proofs.Common.{◌≡◌, ℕ, ◌+◌, ◌<◌, true, nat_lt, List, [], ◌∷◌, length, map, get_or, arith, refl, ap, sym, ◌∙◌, subst}
use Rattle.std.specs.List.{list_all}
use Rattle.std.proofs.lemmas.Bool.{and_parts, ltb-true}
use Rattle.std.proofs.lemmas.List.{get_or-map, get_or_default, length-map}
use Rattle.std.proofs.lemmas.List.Kept.{AllPairs-from_increasing}
use Rattle.subdiv_model.specs.Polygons.{Polygon, is_over, polygon_at}
use Rattle.subdiv_model.specs.Edges.{edges_of}
use Rattle.subdiv_model.specs.Child.{child_polygons}
use Rattle.mesh_laws.proofs.ClosedLemmas.{all-at}
use Rattle.mesh_laws.proofs.SideLemmas.{distinct-places}
use Rattle.level_topology.specs.Topology.{Topology, IsTopology}
use Rattle.level_topology.specs.Child.{PointOrigin, FromVertex, FromFace, FromEdge, IsOriginWithin, IsPlaceWithin, IsChild, origins_along, corner_origins}
use Rattle.level_topology.specs.ChildTables.{numbered_origin, point_number}
use Rattle.level_topology.proofs.ChildLemmas.{origin-of-number, number-of-origin, origin-within}
use Rattle.level_topology.proofs.LawLemmas.{edge-exists}
use Rattle.level_topology.proofs.FactLemmas.{corners-exist}
use Rattle.child_slots.specs.Slots.{before_in, corner_at, edge_from, quad_at}
use Rattle.child_slots.proofs.SlotLemmas.{before-within, over-of}
use Rattle.child_slots.proofs.QuadLemmas.{child-quad}
use Rattle.part_laws.proofs.ListLemmas.{map-agree, map-twice}
use Rattle.part_laws.proofs.PartLemmas.{as-many, polygon-in}
use Rattle.sparse_laws.specs.SparseLevels.{name_in}
use Rattle.subdiv_model.specs.Sparse.{child_number}
use Rattle.sparse_laws.specs.NextSparse.{next_children}
use Rattle.sparse_laws.proofs.NumberLemmas.{is_place}
use Rattle.sparse_laws.proofs.PresentLemmas.{all-chosen}
use Rattle.sparse_level.proofs.NextPointLemmas.{places-within, points-next}
use Rattle.sparse_level.proofs.PartOfPlacesLemmas.{points-below, points-distinct}
use Rattle.sparse_refiner.specs.Made.{IsNextLevel, origins_in, places_in, points_in}
use Rattle.sparse_refiner.proofs.SelfLemmas.{selection}

four : {i i' j j' k k' l l' : PointOrigin} → i ≡ i' → j ≡ j' → k ≡ k' → l ≡ l' → i ∷ j ∷ k ∷ l ∷ [] ≡ i' ∷ j' ∷ k' ∷ l' ∷ []
four p q r s = cc

module _ (t : Topology) (is : IsTopology t) (some : List ℕ) (within : list_all (λ f. nat_lt f (length t.level.polygons)) some ≡ true) where
  abbrev points : ℕ
  points = t.level.point_count

  abbrev polygons : List Polygon
  polygons = t.level.polygons

  abbrev faces : ℕ
  faces = length t.level.polygons

  abbrev edges : ℕ
  edges = length (edges_of t.level.polygons)

  abbrev origin : ℕ → PointOrigin
  origin n = numbered_origin t.level.point_count (length t.level.polygons) n

  abbrev kids : List Polygon
  kids = child_polygons t.level.point_count t.level.polygons

  -- the corners of a child face come from the corner, the edges and the face that they should
  quad-origins : (f c : ℕ) → f < faces → c < length (polygon_at polygons f) → map origin (quad_at points polygons f c) ≡ corner_origins polygons (f, c)
  quad-origins f c h k =
      let b = before_in polygons f c in
      four (origin-of-number points faces edges (FromVertex (corner_at polygons f c)) (corners-exist t is f h c 0 k))
      (origin-of-number points faces edges (FromEdge (edge_from polygons f c)) (edge-exists polygons f c k))
      (origin-of-number points faces edges (FromFace f) h)
      (origin-of-number points faces edges (FromEdge (edge_from polygons f b)) (edge-exists polygons f b (before-within polygons f c k)))

  -- a place of the next level is that of a corner
  pub record PlaceAt (k : ℕ) : Type 0 where
    pub is_face : (get_or (places_in t some) k (0, 0)).0 < faces
    pub is_corner : (get_or (places_in t some) k (0, 0)).1 < length (polygon_at polygons (get_or (places_in t some) k (0, 0)).0)

  pub place-at : (k : ℕ) → k < length (places_in t some) → PlaceAt k
  place-at k h =
      let place = get_or (places_in t some) k (0, 0) in
      let parts = and_parts (nat_lt place.0 faces) (nat_lt place.1 (length (polygon_at polygons place.0))) (all-at (is_place polygons) (places_in t some) k (0, 0) h (all-chosen (selection t.level (over-of t is) some within))) in
      record { is_face = ltb-true _ _ parts.0; is_corner = ltb-true _ _ parts.1 }

  module _ (next : Topology) (made : IsNextLevel t some next) where
    abbrev name : ℕ → ℕ
    name p = name_in (points_in t some) p

    pub as-places : length next.level.polygons ≡ length (places_in t some)
    as-places = as-many name (next_children polygons some) next.level.polygons kids made.part.polygons ∙ length-map (places_in t some) (child_number polygons)

    -- a face has the corners of the child face of its place
    pub face-named : (k : ℕ) → k < length (places_in t some) → map name (polygon_at next.level.polygons k) ≡ quad_at points polygons (get_or (places_in t some) k (0, 0)).0 (get_or (places_in t some) k (0, 0)).1
    face-named k h =
        let place = get_or (places_in t some) k (0, 0) in
        let at = place-at k h in
        polygon-in name (next_children polygons some) next.level.polygons kids made.part.polygons k (omega (arith, h, as-places))
        ∙ ap (polygon_at kids) (get_or-map (child_number polygons) (places_in t some) k (0, 0) 0 h)
        ∙ child-quad points polygons place.0 place.1 at.is_face at.is_corner

    pub face-long : (k : ℕ) → k < length (places_in t some) → length (polygon_at next.level.polygons k) ≡ 4
    face-long k h = sym (length-map (polygon_at next.level.polygons k) name) ∙ ap length (face-named k h)

    corners-along : is_over next.level.point_count next.level.polygons ≡ true → (k : ℕ) → k < length (places_in t some) → origins_along (origins_in t some) (polygon_at next.level.polygons k) ≡ corner_origins polygons (get_or (places_in t some) k (0, 0))
    corners-along over k h =
        let at = place-at k h in
        let polygon = polygon_at next.level.polygons k in
        let below : list_all (λ p. nat_lt p next.level.point_count) polygon ≡ true = all-at (list_all (λ p. nat_lt p next.level.point_count)) next.level.polygons k [] (omega (arith, h, as-places)) over in
        map-agree (λ p. nat_lt p next.level.point_count) (λ p. get_or (origins_in t some) p (FromVertex 0)) (λ p. origin (name p)) (λ p low. get_or-map origin (points_in t some) p 0 (FromVertex 0) (omega (arith, ltb-true _ _ low, made.points))) polygon below
        ∙ sym (map-twice name origin polygon)
        ∙ ap (map origin) (face-named k h)
        ∙ quad-origins (get_or (places_in t some) k (0, 0)).0 (get_or (places_in t some) k (0, 0)).1 at.is_face at.is_corner

    pub next-child : is_over next.level.point_count next.level.polygons ≡ true → IsChild t next (origins_in t some) (places_in t some)
    next-child over =
        let count = length-map (points_in t some) origin in
        record {
          each_point = count ∙ sym made.points;
          each_face = sym as-places;
          origins_within = λ k d h.
              let inside : k < length (points_in t some) = omega (arith, h, count) in
              subst (IsOriginWithin points faces edges) (sym (get_or-map origin (points_in t some) k 0 d inside)) (origin-within points faces edges (get_or (points_in t some) k 0) (points-below t is (places_in t some) (points_in t some) (sym (points-next t.level some)) (places-within t.level some) k 0 inside));
          places_within = λ k d h.
              let at = place-at k h in
              subst (IsPlaceWithin polygons) (get_or_default (places_in t some) k (0, 0) d h) at.is_corner;
          origins_once = λ i j d less h alike.
              let far : j < length (points_in t some) = omega (arith, h, count) in
              let near : i < length (points_in t some) = omega (arith, far, less) in
              let numbers : get_or (points_in t some) i 0 ≡ get_or (points_in t some) j 0 =
              sym (number-of-origin points faces (get_or (points_in t some) i 0))
              ∙ ap (point_number points faces) (sym (get_or-map origin (points_in t some) i 0 d near) ∙ alike ∙ get_or-map origin (points_in t some) j 0 d far)
              ∙ number-of-origin points faces (get_or (points_in t some) j 0) in
              absurd (omega (arith, less, distinct-places (points_in t some) i j (points-distinct t.level (places_in t some) (points_in t some) (sym (points-next t.level some))) near far numbers));
          places_once = λ i j d less h alike.
              let near : i < length (places_in t some) = omega (arith, h, less) in
              let children = next_children polygons some in
              let many = length-map (places_in t some) (child_number polygons) in
              let up : get_or children i 0 < get_or children j 0 = AllPairs-from_increasing children made.part.polygons.ascending i j 0 less (omega (arith, h, many)) in
              let same : get_or children i 0 ≡ get_or children j 0 = get_or-map (child_number polygons) (places_in t some) i d 0 near ∙ ap (child_number polygons) alike ∙ sym (get_or-map (child_number polygons) (places_in t some) j d 0 h) in
              absurd (omega (arith, up, same));
          corners = λ k h. corners-along over k h;
        }
