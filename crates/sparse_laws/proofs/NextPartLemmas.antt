-- The present child faces are a part of the next level of the whole, and their corners are its present points.
use Rattle.std.proofs.Common.{◌≡◌, ℕ, ◌<◌, true, false, nat_eq, nat_lt, List, [], ◌∷◌, length, map, get_or, arith, refl, ap, sym, ◌∙◌, subst}
use Rattle.std.specs.List.{list_all}
use Rattle.std.proofs.lemmas.Bool.{and_parts, and_from, lt-ltb, ltb-true}
use Rattle.std.proofs.lemmas.List.{length-map, get_or-map}
use Rattle.std.proofs.lemmas.List.Elements.{filter_passes}
use Rattle.std.proofs.lemmas.List.Folds.{list_all-append, list_all-map}
use Rattle.subdiv_model.specs.Lists.{places, each_once_by}
use Rattle.subdiv_model.specs.Polygons.{Polygon, has_corner, is_among, is_over, polygon_at}
use Rattle.subdiv_model.specs.Level.{Level}
use Rattle.subdiv_model.specs.Child.{child_level}
use Rattle.subdiv_model.specs.Sparse.{child_number, corners_of, is_on}
use Rattle.number_laws.proofs.CountLemmas.{all-weaker}
use Rattle.mesh_laws.proofs.ClosedLemmas.{all-at}
use Rattle.mesh_laws.proofs.ChildCornerLemmas.{corner-place, corner-point}
use Rattle.level_laws.proofs.FaceLemmas.{child_polygons-length}
use Rattle.part_laws.specs.Parts.{IsWholeAt, is_corner, face_in}
use Rattle.part_laws.specs.LevelParts.{IsLevelPart}
use Rattle.part_laws.specs.Children.{children_in, corner_of_child}
use Rattle.part_laws.proofs.ListLemmas.{map-agree, map-twice, mapped-joined, joined-mapped, once-mapped, all-once}
use Rattle.part_laws.proofs.RenamedLemmas.{number-renamed}
use Rattle.part_laws.proofs.PartLemmas.{as-many, polygon-in}
use Rattle.part_laws.proofs.JoinLemmas.{corner-in, corner-of, corner-named}
use Rattle.part_laws.proofs.PlaceLemmas.{owner-below}
use Rattle.part_laws.proofs.ChildLemmas.{child-places}
use Rattle.part_laws.proofs.NextLemmas.{next-part}
use Rattle.sparse_laws.specs.SparseLevels.{name_in}
use Rattle.sparse_laws.specs.NextSparse.{vertex_at, next_places, next_children, next_points, has_all_faces}
use Rattle.sparse_laws.proofs.NameLemmas.{part-renamed}
use Rattle.sparse_laws.proofs.NumberLemmas.{is_place}
use Rattle.sparse_laws.proofs.CornerLemmas.{all-among, child-at-place}
use Rattle.sparse_laws.proofs.PresentLemmas.{Selection, all-chosen, numbers-same, number_there}
use Rattle.sparse_laws.proofs.CompleteLemmas.{inner-complete, complete-same, kid, kids, kids_there, kid_numbers, kid-part}

corners-mapped : (name : ℕ → ℕ) (polygons : List Polygon) → corners_of (map (map name) polygons) ≡ map name (corners_of polygons)
corners-mapped name polygons = joined-mapped (λ polygon. polygon) (map name) polygons ∙ sym (mapped-joined name (λ polygon. polygon) polygons)

-- corners of some of the polygons are corners of the polygons
corners-own : (polygons : List Polygon) (ms : List ℕ) → list_all (is_corner polygons) (corners_of (map (polygon_at polygons) ms)) ≡ true
corners-own polygons [] = refl
corners-own polygons (m ∷ ms) =
    list_all-append (is_corner polygons) (polygon_at polygons m) (corners_of (map (polygon_at polygons) ms))
    ∙ and_from _ _ (all-among (is_corner polygons) (polygon_at polygons m) (λ p h. corner-in polygons p m h)) (corners-own polygons ms)

module _ (s : Selection) where
  abbrev present_faces : List ℕ
  present_faces = places (is_on s.whole.polygons s.others) (corners_of s.whole.polygons)

  abbrev children : List ℕ
  children = next_children s.part.polygons s.some

  abbrev chosen : List (ℕ × ℕ)
  chosen = next_places s.part.polygons s.some

  number-at : (place : ℕ × ℕ) → is_place s.part.polygons place ≡ true → face_in (children_in s.whole.polygons s.numbers) (child_number s.part.polygons place) ≡ number_there s place
  number-at place h =
      let parts = and_parts (nat_lt place.0 (length s.part.polygons)) (nat_lt place.1 (length (polygon_at s.part.polygons place.0))) h in
      child-places s.name s.numbers s.part s.whole s.is.polygons place.0 place.1 (ltb-true _ _ parts.0) (ltb-true _ _ parts.1)

  -- the present faces are those of the next level of the part with these numbers
  pub faces-same : map (face_in (children_in s.whole.polygons s.numbers)) (next_children s.part.polygons s.some) ≡ places (is_on s.whole.polygons s.others) (corners_of s.whole.polygons)
  faces-same =
      map-twice (child_number s.part.polygons) (face_in (children_in s.whole.polygons s.numbers)) chosen
      ∙ map-agree (is_place s.part.polygons) (λ place. face_in (children_in s.whole.polygons s.numbers) (child_number s.part.polygons place)) (number_there s) number-at chosen (all-chosen s)
      ∙ sym (numbers-same s)

  children-below : list_all (λ m. nat_lt m (length (kids s))) (next_children s.part.polygons s.some) ≡ true
  children-below =
      list_all-map (λ m. nat_lt m (length (kids s))) (child_number s.part.polygons) chosen
      ∙ all-weaker (is_place s.part.polygons) (λ place. nat_lt (child_number s.part.polygons place) (length (kids s))) (λ place h.
      let parts = and_parts (nat_lt place.0 (length s.part.polygons)) (nat_lt place.1 (length (polygon_at s.part.polygons place.0))) h in
      lt-ltb _ _ (omega (arith, owner-below s.part.polygons place.0 place.1 (ltb-true _ _ parts.0) (ltb-true _ _ parts.1), child_polygons-length s.part.point_count s.part.polygons))) chosen (all-chosen s)

  polygons-same : map (polygon_at (kids_there s)) present_faces ≡ map (map (kid s)) (map (polygon_at (kids s)) children)
  polygons-same =
      ap (map (polygon_at (kids_there s))) (sym faces-same)
      ∙ map-twice (face_in (kid_numbers s)) (polygon_at (kids_there s)) children
      ∙ map-agree (λ m. nat_lt m (length (kids s))) (λ m. polygon_at (kids_there s) (face_in (kid_numbers s) m)) (λ m. map (kid s) (polygon_at (kids s) m)) (λ m h. sym (polygon-in (kid s) (kid_numbers s) (kids s) (kids_there s) (kid-part s) m (ltb-true _ _ h))) children children-below
      ∙ sym (map-twice (polygon_at (kids s)) (map (kid s)) children)

  -- the present points are the points of the next level, by their names
  pub points-same : each_once_by nat_eq (corners_of (map (polygon_at (kids_there s)) (places (is_on s.whole.polygons s.others) (corners_of s.whole.polygons)))) ≡ map (kid s) (next_points s.part s.some)
  points-same =
      ap (λ polygons. each_once_by nat_eq (corners_of polygons)) polygons-same
      ∙ ap (each_once_by nat_eq) (corners-mapped (kid s) (map (polygon_at (kids s)) children))
      ∙ once-mapped (is_corner (kids s)) (kid s) nat_eq nat_eq (λ x y h k. number-renamed (kid s) (is_corner (kids s)) (kid-part s).apart x y h k) (corners_of (map (polygon_at (kids s)) children)) (corners-own (kids s) children)

  pub points-own : list_all (is_corner (kids s)) (next_points s.part s.some) ≡ true
  points-own = all-once nat_eq (is_corner (kids s)) (corners_of (map (polygon_at (kids s)) children)) (corners-own (kids s) children)

  -- the marks of points that have all their faces
  pub marks-same : map (has_all_faces s.part s.some) (next_points s.part s.some) ≡ map (λ n. list_all (is_among (places (is_on s.whole.polygons s.others) (corners_of s.whole.polygons))) (places (has_corner n) (kids_there s))) (map (kid s) (next_points s.part s.some))
  marks-same =
      map-agree (is_corner (kids s)) (has_all_faces s.part s.some) (λ n. list_all (is_among present_faces) (places (has_corner (kid s n)) (kids_there s))) (complete-same s) (next_points s.part s.some) points-own
      ∙ sym (map-twice (kid s) (λ n. list_all (is_among present_faces) (places (has_corner n) (kids_there s))) (next_points s.part s.some))

  -- a chosen place by its number
  pub place-of : (j : ℕ) → j < length chosen → (is_place s.part.polygons (get_or chosen j (0, 0)) ≡ true) × (is_on s.part.polygons s.some (vertex_at s.part.polygons (get_or chosen j (0, 0))) ≡ true)
  place-of j h = (
    all-at (is_place s.part.polygons) chosen j (0, 0) h (all-chosen s),
    filter_passes (λ place. is_on s.part.polygons s.some (vertex_at s.part.polygons place)) _ j (0, 0) h,
  )

  child-of : (j : ℕ) → j < length chosen → face_in children j ≡ child_number s.part.polygons (get_or chosen j (0, 0))
  child-of j h = get_or-map (child_number s.part.polygons) chosen j (0, 0) 0 h

  -- the child face of a corner begins at its vertex
  pub begins-at : (place : ℕ × ℕ) → is_place s.part.polygons place ≡ true → corner_of_child s.part (child_number s.part.polygons place) ≡ vertex_at s.part.polygons place
  begins-at place h =
      let parts = and_parts (nat_lt place.0 (length s.part.polygons)) (nat_lt place.1 (length (polygon_at s.part.polygons place.0))) h in
      ap (λ q. get_or q 0 0) (child-at-place s.part s.over place.0 place.1 (ltb-true _ _ parts.0) (ltb-true _ _ parts.1)).is

  -- each chosen child face begins at a point where the part has all faces
  whole-children : (j : ℕ) → j < length chosen → IsWholeAt s.numbers s.whole.polygons (s.name (corner_of_child s.part (face_in children j)))
  whole-children j h =
      let facts = place-of j h in
      let e = ap (corner_of_child s.part) (child-of j h) ∙ begins-at (get_or chosen j (0, 0)) facts.0 in
      subst (λ w. IsWholeAt s.numbers s.whole.polygons (s.name w)) (sym e) (s.has_all (vertex_at s.part.polygons (get_or chosen j (0, 0))) facts.1)

  module _ (next : Level) (is : IsLevelPart (name_in (next_points s.part s.some)) (next_children s.part.polygons s.some) next (child_level s.part)) (over : is_over next.point_count next.polygons ≡ true) (many : next.point_count ≡ length (next_points s.part s.some)) where
    abbrev points : List ℕ
    points = next_points s.part s.some

    so-many : length next.polygons ≡ length (next_places s.part.polygons s.some)
    so-many = as-many (name_in (next_points s.part s.some)) (next_children s.part.polygons s.some) next.polygons (kids s) is.polygons ∙ length-map (next_places s.part.polygons s.some) (child_number s.part.polygons)

    corner-below : (p k : ℕ) → has_corner p (polygon_at next.polygons k) ≡ true → p < length (next_points s.part s.some)
    corner-below p k h = omega (arith, many, ltb-true _ _ (corner-point next.point_count next.polygons k p over h))

    named : (p : ℕ) → is_corner next.polygons p ≡ true → kid s (name_in (next_points s.part s.some) p) ≡ name_in (map (kid s) (next_points s.part s.some)) p
    named p h =
        let found = corner-of next.polygons p h in
        sym (get_or-map (kid s) (next_points s.part s.some) p 0 0 (corner-below p found.0 found.2))

    -- the next level of the part is a part of the next level
    pub next-level-part : IsLevelPart (name_in (map (kid s) (next_points s.part s.some))) (map (face_in (children_in s.whole.polygons s.numbers)) (next_children s.part.polygons s.some)) next (child_level s.whole)
    next-level-part =
        part-renamed (λ p. kid s (name_in points p)) (name_in (map (kid s) points)) (map (face_in (kid_numbers s)) children) next (child_level s.whole) named
        (next-part s.name s.numbers s.part s.whole s.is s.over s.whole_over (name_in points) children next (record { is_part = is; has_all = λ chaikin j h. whole-children j (omega (arith, h, so-many)) }))

    -- each corner of a child of a selected face has all its faces
    pub inside-complete : (f p : ℕ) → get_or (map (λ place. is_among s.some place.0) (next_places s.part.polygons s.some)) f false ≡ true → has_corner p (polygon_at next.polygons f) ≡ true → get_or (map (has_all_faces s.part s.some) (next_points s.part s.some)) p false ≡ true
    inside-complete f p inner at =
        let below : f < length chosen = omega (arith, corner-place next.polygons f p at, so-many) in
        let place = get_or chosen f (0, 0) in
        let parts = and_parts (nat_lt place.0 (length s.part.polygons)) (nat_lt place.1 (length (polygon_at s.part.polygons place.0))) (place-of f below).0 in
        let own : is_among s.some place.0 ≡ true = sym (get_or-map (λ place. is_among s.some place.0) chosen f (0, 0) false below) ∙ inner in
        let corner = corner-named (name_in points) children next.polygons (kids s) is.polygons p f at in
        get_or-map (has_all_faces s.part s.some) points p 0 false (corner-below p f at)
        ∙ inner-complete s place.0 place.1 (name_in points p) (ltb-true _ _ parts.0) (ltb-true _ _ parts.1) own (ap (λ m. has_corner (name_in points p) (polygon_at (kids s) m)) (sym (child-of f below)) ∙ corner)
