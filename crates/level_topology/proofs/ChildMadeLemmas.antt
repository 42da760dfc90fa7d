-- The tables of a child, as they are made and as they are read.
use Rattle.std.proofs.Common.{◌≡◌, ◌≢◌, ℕ, zero, suc, ◌+◌, ◌-◌, ◌<◌, ◌^◌, nat_eq, List, [], ◌∷◌, length, map, get_or, arith, refl, ap, sym, ◌∙◌, subst}
use Rattle.std.specs.List.{All, AllPairs, sum_by}
use Rattle.std.proofs.lemmas.List.{get_or-map, length-map}
use Rattle.subdiv_model.specs.Polygons.{Polygon, polygon_at}
use Rattle.subdiv_model.specs.Edges.{edges_of}
use Rattle.level_topology.specs.Topology.{Topology, IsTopology}
use Rattle.level_topology.specs.Packed.{Ascend, gaps}
use Rattle.level_topology.specs.Child.{PointOrigin, FromVertex, FromFace, FromEdge, same_origin, IsOriginWithin, same_place, IsPlaceWithin, IsChild, ChildTopology, child_of, HasParent, point_from, face_from}
use Rattle.level_topology.specs.declared.child_origin.Origin.{Origin}
use Rattle.level_topology.specs.declared.child_tables.ChildTables.{ChildTables}
use Rattle.level_topology.specs.ChildTables.{origin_of, point_number, numbered_origin, corner_number, numbered_place, present_place, IsInverse, AreNumbered, numbers_in, child_in, AreOfChild}
use Rattle.level_topology.proofs.PieceLemmas.{ascend-some}
use Rattle.level_topology.proofs.ChildTableLemmas.{pairs-map, map-back, numbers-back, present-kept, position-same}
use Rattle.level_topology.proofs.ChildLemmas.{origin-of-number, origin-below, origin-numbers, place-of-number, place-below, place-numbers, length-gaps}

-- the number of a point with an origin within is within
pub number-below : (points faces edges : ℕ) (origins : List Origin) (p : ℕ) (d : Origin) → All (IsOriginWithin points faces edges) (map origin_of origins) → p < length origins → point_number points faces (origin_of (get_or origins p d)) < points + faces + edges
number-below points faces edges origins p d within inside =
    let at = get_or-map origin_of origins p d (origin_of d) inside in
    omega (arith, ap (point_number points faces) at, origin-below points faces edges _ (within p (origin_of d) (omega (arith, length-map origins origin_of))))

-- Different origins have different numbers, and different places have different numbers.
pub origin-pairs : (points faces edges : ℕ) (origins : List PointOrigin) → All (IsOriginWithin points faces edges) origins → AllPairs (λ a b. a ≢ b) origins → AllPairs (λ a b. a ≢ b) (map (point_number points faces) origins)
origin-pairs points faces edges origins within once =
    pairs-map (point_number points faces) (numbered_origin points faces) origins (λ k d h. origin-of-number points faces edges _ (within k d h)) once

-- a face's size is the gap between its start and the next
size-at : (polygons : List Polygon) (g : ℕ) → get_or (map length polygons) g 0 ≡ length (polygon_at polygons g)
size-at [] g = refl
size-at (polygon ∷ polygons) zero = refl
size-at (polygon ∷ polygons) (suc g) = size-at polygons g

module _ (polygons : List Polygon) (starts : List ℕ) (same : gaps starts ≡ map length polygons) (ascend : Ascend starts (sum_by length polygons)) where
  pub gap-at : (place : ℕ × ℕ) → IsPlaceWithin polygons place → place.1 < get_or (gaps starts) place.0 0
  gap-at place h = omega (arith, h, ap (λ sizes. get_or sizes place.0 0) same, size-at polygons place.0)

  pub place-faces : (places : List (ℕ × ℕ)) → All (IsPlaceWithin polygons) places → All (λ place. place.0 < length starts) places
  place-faces places within k d h = omega (arith, (place-below starts _ _ ascend (gap-at _ (within k d h))).0)

  pub place-corners : (places : List (ℕ × ℕ)) → All (IsPlaceWithin polygons) places → All (λ place. corner_number starts place < sum_by length polygons) places
  place-corners places within k d h = (place-below starts _ _ ascend (gap-at _ (within k d h))).1

  pub place-back : (places : List (ℕ × ℕ)) → All (IsPlaceWithin polygons) places → All (λ place. numbered_place 0 starts (corner_number starts place) ≡ place) places
  place-back places within k d h = place-of-number starts _ _ ascend (gap-at _ (within k d h))

  pub place-pairs : (places : List (ℕ × ℕ)) → All (IsPlaceWithin polygons) places → AllPairs (λ a b. a ≢ b) places → AllPairs (λ a b. a ≢ b) (map (corner_number starts) places)
  place-pairs places within once = pairs-map (corner_number starts) (numbered_place 0 starts) places (place-back places within) once

  -- there is a start for each face and one more, which is the number of all corners
  pub starts-some : length starts ≡ length polygons + 1
  starts-some = omega (arith, ap length same, length-gaps starts, length-map polygons length, ascend-some starts (sum_by length polygons) ascend)

  pub last-start : get_or starts (length polygons) 0 ≡ sum_by length polygons
  last-start = end starts (length polygons) starts-some ascend
    where
      end : (starts : List ℕ) (n : ℕ) → length starts ≡ n + 1 → Ascend starts (sum_by length polygons) → get_or starts n 0 ≡ sum_by length polygons
      end [] n e a = absurd a
      end (s ∷ []) zero e a = a
      end (s ∷ []) (suc n) e a = absurd (omega arith)
      end (s ∷ (t ∷ starts)) zero e a = absurd (omega arith)
      end (s ∷ (t ∷ starts)) (suc n) e a = end (t ∷ starts) n (omega arith) a.1

abbrev child_with : Topology → ℕ → List ℕ → ℕ → List PointOrigin → List (ℕ × ℕ) → ChildTopology
child_with level points sizes edges origins places = record {
  topology = level;
  parent_points = points;
  parent_sizes = sizes;
  parent_edges = edges;
  origins = origins;
  places = places;
}

child-same : (level : Topology) {a b c d : ℕ} {s t : List ℕ} {os ps : List PointOrigin} {ls ms : List (ℕ × ℕ)} → a ≡ b → s ≡ t → c ≡ d → os ≡ ps → ls ≡ ms → child_with level a s c os ls ≡ child_with level b t d ps ms
child-same level e f g h i = cc

-- The tables that are made are those of the child.
module _ (parent level : Topology) (origins : List PointOrigin) (places : List (ℕ × ℕ)) (t : ChildTables)
    (parent_is : IsTopology parent) (level_is : IsTopology level) (is : IsChild parent level origins places)
    (vertices : t.vertices ≡ parent.level.point_count) (faces : t.faces ≡ length parent.level.polygons)
    (numbered : AreNumbered t.vertices t.faces (length (edges_of parent.level.polygons)) origins t.numbers.items t.points.items)
    (sizes : gaps t.starts.items ≡ map length parent.level.polygons) (ascend : Ascend t.starts.items (sum_by length parent.level.polygons))
    (inverse : IsInverse (map (corner_number t.starts.items) places) t.child_faces.items)
    (corners : length t.child_faces.items ≡ sum_by length parent.level.polygons) where
  origins-same : map (numbered_origin t.vertices t.faces) t.numbers.items ≡ origins
  origins-same =
      ap (map (numbered_origin t.vertices t.faces)) numbered.numbers
      ∙ map-back (point_number t.vertices t.faces) (numbered_origin t.vertices t.faces) origins (λ k d h. recovers k d h)
    where
      recovers : All (λ origin. numbered_origin t.vertices t.faces (point_number t.vertices t.faces origin) ≡ origin) origins
      recovers k d h =
          rw (vertices, faces) (origin-of-number parent.level.point_count (length parent.level.polygons) (length (edges_of parent.level.polygons)) _ (is.origins_within k d h))

  places-same : map (numbered_place 0 t.starts.items) (numbers_in t.child_faces.items (length level.level.polygons)) ≡ places
  places-same =
      let below = place-corners parent.level.polygons t.starts.items sizes ascend places is.places_within in
      let few : length (map (corner_number t.starts.items) places) < 2 ^ 32 = omega (arith, length-map places (corner_number t.starts.items), is.each_face, level_is.small.faces) in
      let counted : length level.level.polygons ≡ length (map (corner_number t.starts.items) places) = omega (arith, length-map places (corner_number t.starts.items), is.each_face) in
      ap (map (numbered_place 0 t.starts.items))
      (numbers-back (map (corner_number t.starts.items) places) t.child_faces.items (length level.level.polygons) inverse counted few (inside below)
      (place-pairs parent.level.polygons t.starts.items sizes ascend places is.places_within is.places_once))
      ∙ map-back (corner_number t.starts.items) (numbered_place 0 t.starts.items) places (place-back parent.level.polygons t.starts.items sizes ascend places is.places_within)
    where
      inside : All (λ place. corner_number t.starts.items place < sum_by length parent.level.polygons) places → All (λ n. n < length t.child_faces.items) (map (corner_number t.starts.items) places)
      inside below k d h =
          let within : k < length places = omega (arith, h, length-map places (corner_number t.starts.items)) in
          omega (arith, get_or-map (corner_number t.starts.items) places k (0, 0) d within, below k (0, 0) within, corners)

  made-same : child_in level t ≡ child_of parent level origins places
  made-same =
      let edges : length t.points.items - t.vertices - t.faces ≡ length (edges_of parent.level.polygons) = omega (arith, numbered.count) in
      child-same level vertices sizes edges origins-same places-same

  made-child : AreOfChild level t
  made-child = record {
    parent = subst HasParent (sym made-same) (record { parent = parent; parent_is = parent_is; level_is = level_is; of = refl; is = is });
    points =
        let P : List ℕ → Type 0 = λ ns. IsInverse ns t.points.items in
        subst P (numbered.numbers ∙ ap (map (point_number t.vertices t.faces)) (sym origins-same)) numbered.inverse;
    faces =
        let P : List (ℕ × ℕ) → Type 0 = λ ps. IsInverse (map (corner_number t.starts.items) ps) t.child_faces.items in
        subst P (sym places-same) inverse;
    ascend = rw corners ascend;
    face_count = faces ∙ sym (ap length sizes ∙ length-map parent.level.polygons length);
    total = omega (arith, numbered.count);
  }

-- The tables made from the starts of the parent are those of the child.
pub made : (parent level : Topology) (origins : List PointOrigin) (places : List (ℕ × ℕ)) (t : ChildTables) (starts : List ℕ) (edges corners : ℕ)
    → IsTopology parent → IsTopology level → IsChild parent level origins places
    → t.vertices ≡ parent.level.point_count → t.faces ≡ length parent.level.polygons → edges ≡ length (edges_of parent.level.polygons)
    → AreNumbered t.vertices t.faces edges origins t.numbers.items t.points.items
    → t.starts.items ≡ starts → gaps starts ≡ map length parent.level.polygons → Ascend starts (sum_by length parent.level.polygons)
    → corners ≡ get_or starts (length parent.level.polygons) 0
    → IsInverse (map (corner_number t.starts.items) places) t.child_faces.items → length t.child_faces.items ≡ corners
    → (child_in level t ≡ child_of parent level origins places) × AreOfChild level t
made parent level origins places t starts edges corners parent_is level_is is vertices faces sides numbered from sizes ascend last inverse count =
    let all = subst (λ (n : ℕ). AreNumbered t.vertices t.faces n origins t.numbers.items t.points.items) sides numbered in
    let gap : gaps t.starts.items ≡ map length parent.level.polygons = ap gaps from ∙ sizes in
    let up = subst (λ (ss : List ℕ). Ascend ss (sum_by length parent.level.polygons)) (sym from) ascend in
    let sum = count ∙ last ∙ last-start parent.level.polygons starts sizes ascend in (
      made-same parent level origins places t parent_is level_is is vertices faces all gap up inverse sum,
      made-child parent level origins places t parent_is level_is is vertices faces all gap up inverse sum,
    )

within-same : (points faces edges m n k : ℕ) (origin : PointOrigin) → points ≡ m → faces ≡ n → edges ≡ k → IsOriginWithin m n k origin → IsOriginWithin points faces edges origin
within-same points faces edges m n k (FromVertex v) e f g h = omega (arith, h)
within-same points faces edges m n k (FromFace v) e f g h = omega (arith, h)
within-same points faces edges m n k (FromEdge v) e f g h = omega (arith, h)

-- The accessors return the values of the child.
module _ (level : Topology) (t : ChildTables) (is : AreOfChild level t) where
  few-points : length (child_in level t).origins < 2 ^ 32
  few-points = omega (arith, is.parent.is.each_point, is.parent.level_is.small.points)

  few-faces : length (child_in level t).places < 2 ^ 32
  few-faces = omega (arith, is.parent.is.each_face, is.parent.level_is.small.faces)

  pub point-found : (origin : PointOrigin) → IsOriginWithin t.vertices t.faces (length t.points.items - t.vertices - t.faces) origin → present_place (get_or t.points.items (point_number t.vertices t.faces origin) 0) ≡ point_from (child_in level t) origin
  point-found origin within =
      let parent = is.parent.parent in
      let edges = length t.points.items - t.vertices - t.faces in
      let number = point_number t.vertices t.faces in
      let origins = (child_in level t).origins in
      let sizes : gaps t.starts.items ≡ map length parent.level.polygons = ap (λ (c : ChildTopology). c.parent_sizes) is.parent.of in
      let faces : t.faces ≡ length parent.level.polygons = is.face_count ∙ ap length sizes ∙ length-map parent.level.polygons length in
      let all : All (IsOriginWithin t.vertices t.faces edges) origins = λ k d h.
      within-same t.vertices t.faces edges parent.level.point_count (length parent.level.polygons) (length (edges_of parent.level.polygons)) _
      (ap (λ (c : ChildTopology). c.parent_points) is.parent.of) faces (ap (λ (c : ChildTopology). c.parent_edges) is.parent.of) (is.parent.is.origins_within k d h) in
      let below : number origin < length t.points.items = omega (arith, origin-below t.vertices t.faces edges origin within, is.total) in
      let few : length (map number origins) < 2 ^ 32 = omega (arith, length-map origins number, few-points) in
      ap present_place (is.points (number origin) below)
      ∙ present-kept (nat_eq (number origin)) (map number origins) few
      ∙ position-same (IsOriginWithin t.vertices t.faces edges) number same_origin (origin-numbers t.vertices t.faces edges) origin origins within all

  pub face-found : (place : ℕ × ℕ) → place.1 < get_or (gaps t.starts.items) place.0 0 → present_place (get_or t.child_faces.items (corner_number t.starts.items place) 0) ≡ face_from (child_in level t) place
  face-found place within =
      let parent = is.parent.parent in
      let number = corner_number t.starts.items in
      let places = (child_in level t).places in
      let sizes : gaps t.starts.items ≡ map length parent.level.polygons = ap (λ (c : ChildTopology). c.parent_sizes) is.parent.of in
      let all : All (λ p. p.1 < get_or (gaps t.starts.items) p.0 0) places = λ k d h.
      omega (arith, is.parent.is.places_within k d h, ap (λ ss. get_or ss (get_or places k d).0 0) sizes, size-at parent.level.polygons (get_or places k d).0) in
      let below = (place-below t.starts.items (length t.child_faces.items) place is.ascend within).1 in
      let few : length (map number places) < 2 ^ 32 = omega (arith, length-map places number, few-faces) in
      ap present_place (is.faces (number place) below)
      ∙ present-kept (nat_eq (number place)) (map number places) few
      ∙ position-same (λ p. p.1 < get_or (gaps t.starts.items) p.0 0) number same_place (λ a b. place-numbers t.starts.items (length t.child_faces.items) a b is.ascend) place places within all
