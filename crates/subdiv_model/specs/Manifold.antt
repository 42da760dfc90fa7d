-- Manifolds: polygons of three or more distinct corners, in which each directed edge occurs once and the faces at each point form
-- one fan.
-- Source: Drillolive.
use Rattle.std.specs.Prelude.{ℕ, zero, suc, ◌<◌, Bool, true, false, not, ◌&&◌, ◌||◌, nat_eq, nat_le, List, [], ◌∷◌, length, Option, Some, None, IsTrue, ◌↔◌}
use Rattle.std.specs.List.{All, filter, list_all, list_any, find, range_with_len}
use Rattle.subdiv_model.specs.Polygons.{Polygon, sides_of, has_side, has_corner, is_among, is_distinct, has_distinct_sides, polygon_at}
use Rattle.subdiv_model.specs.Edges.{all_sides, faces_of_point}

-- around v the face `next` follows `face`: some corner follows v in `face`, and `next` has the directed edge from that corner to
-- v
pub record IsSuccessor (polygons : List Polygon) (v face next : ℕ) : Type 0 where
  pub corner : ℕ
  pub follows : IsTrue (has_side (v, corner) (polygon_at polygons face))
  pub leads_back : IsTrue (has_side (corner, v) (polygon_at polygons next))

-- around v each face of the list follows the one before it
abbrev pub IsPath : List Polygon → ℕ → List ℕ → Type 0
IsPath polygons v [] = Unit {0}
IsPath polygons v (face ∷ []) = Unit {0}
IsPath polygons v (face ∷ (next ∷ rest)) = IsSuccessor polygons v face next × IsPath polygons v (next ∷ rest)

-- One walk around v from face to next face visits each face at v once and no other. The last face may lead back to the first. The
-- walk is empty where v has no face.
pub record HasOneFan (polygons : List Polygon) (v : ℕ) : Type 0 where
  pub fan : List ℕ
  pub once : IsTrue (is_distinct fan)
  pub all : (face : ℕ) → IsTrue (is_among fan face) ↔ IsTrue (has_corner v (polygon_at polygons face))
  pub path : IsPath polygons v fan

-- the polygon has at least three corners, all distinct
abbrev pub is_simple : Polygon → Bool
is_simple polygon = nat_le 3 (length polygon) && is_distinct polygon

-- the polygons over this number of points are a manifold
pub record IsManifold (points : ℕ) (polygons : List Polygon) : Type 0 where
  pub simple : All (λ polygon. IsTrue (is_simple polygon)) polygons
  pub sides_once : IsTrue (has_distinct_sides (all_sides polygons))
  pub fans : (v : ℕ) → v < points → HasOneFan polygons v

-- the test whether a face follows another around v
abbrev pub is_successor : List Polygon → ℕ → ℕ → ℕ → Bool
is_successor polygons v face next =
    list_any (λ side. nat_eq v side.0 && has_side (side.1, v) (polygon_at polygons next)) (sides_of (polygon_at polygons face))

-- the list without this number
abbrev pub without : ℕ → List ℕ → List ℕ
without n numbers = filter (λ m. not (nat_eq n m)) numbers

-- The faces that are left after some steps of a walk around v. Each step removes the face it found, then looks for the next among
-- the rest.
abbrev pub left_after : ℕ → List Polygon → ℕ → Option ℕ → List ℕ → List ℕ
left_after zero polygons v found faces = faces
left_after (suc steps) polygons v None faces = faces
left_after (suc steps) polygons v (Some face) faces =
    left_after steps polygons v (find (is_successor polygons v face) (without face faces)) (without face faces)

-- the list is empty
abbrev pub none_left : List ℕ → Bool
none_left [] = true
none_left (n ∷ rest) = false

-- a walk around v from this face leaves no face
abbrev pub walk_meets_all : List Polygon → ℕ → List ℕ → ℕ → Bool
walk_meets_all polygons v faces face = none_left (left_after (length faces) polygons v (Some face) faces)

-- the test for one fan: v has no face, or a walk from one of its faces visits all
abbrev pub has_one_fan : List Polygon → ℕ → Bool
has_one_fan polygons v = none_left (faces_of_point polygons v) || list_any (walk_meets_all polygons v (faces_of_point polygons v)) (faces_of_point polygons v)

-- the test for a manifold
abbrev pub is_manifold : ℕ → List Polygon → Bool
is_manifold points polygons =
    list_all is_simple polygons && has_distinct_sides (all_sides polygons) && list_all (has_one_fan polygons) (range_with_len 0 points)
