-- The facts of a face that decide whether it is selected, and the faces that are features.
-- Source: OpenSubdiv's Far layer for features; which corners are regular is Drillolive's.
use Rattle.std.specs.Prelude.{ℕ, Bool, true, false, not, ◌&&◌, ◌||◌, nat_eq, nat_lt, length}
use Rattle.std.specs.List.{list_any, count_by}
use Rattle.subdiv_model.specs.Polygons.{polygon_at, sides_of}
use Rattle.subdiv_model.specs.Edges.{is_boundary}
use Rattle.subdiv_model.specs.Sharpness.{Sharpness, Smooth, Semi, Infinite, is_sharp}
use Rattle.subdiv_model.specs.Level.{Level, edge_sharpness_of, vertex_sharpness_of, is_hole, edges_at, faces_at}

-- The facts of a face: the number of its level, its own number, the number of its corners, and whether it is a hole. They also
-- count its irregular corners, and its sharp edges that have two faces.
pub record FaceFacts : Type 0 where
  pub level : ℕ
  pub number : ℕ
  pub size : ℕ
  pub hole : Bool
  pub irregular : ℕ
  pub sharp : ℕ

-- the sharpness is infinite
abbrev pub is_infinite : Sharpness → Bool
is_infinite Smooth = false
is_infinite (Semi num den) = false
is_infinite Infinite = true

-- the point is an end of a boundary edge
abbrev pub is_at_boundary : Level → ℕ → Bool
is_at_boundary level v = list_any (is_boundary level.polygons) (edges_at level v)

-- the edge has two faces and is sharp
abbrev pub is_sharp_inside : Level → ℕ × ℕ → Bool
is_sharp_inside level edge = not (is_boundary level.polygons edge) && is_sharp (edge_sharpness_of level edge)

-- the point is not sharp, and no edge of two faces there is sharp
abbrev pub is_smooth_at : Level → ℕ → Bool
is_smooth_at level v = not (is_sharp (vertex_sharpness_of level v)) && not (list_any (is_sharp_inside level) (edges_at level v))

-- the point is off the boundary, has four edges, and is smooth
abbrev pub is_regular_inside : Level → ℕ → Bool
is_regular_inside level v = not (is_at_boundary level v) && nat_eq (length (edges_at level v)) 4 && is_smooth_at level v

-- the point is on the boundary, has two faces, and is smooth
abbrev pub is_regular_side : Level → ℕ → Bool
is_regular_side level v = is_at_boundary level v && nat_eq (length (faces_at level v)) 2 && is_smooth_at level v

-- the point is on the boundary, has one face, and is infinitely sharp
abbrev pub is_regular_corner : Level → ℕ → Bool
is_regular_corner level v = is_at_boundary level v && nat_eq (length (faces_at level v)) 1 && is_infinite (vertex_sharpness_of level v)

-- the point is regular: inside, on a side or at a corner of the boundary
abbrev pub is_regular : Level → ℕ → Bool
is_regular level v = is_regular_inside level v || is_regular_side level v || is_regular_corner level v

-- the facts of a face, from the number of its level and its own number
abbrev pub facts_of : Level → ℕ → ℕ → FaceFacts
facts_of level number face = record {
  level = number;
  number = face;
  size = length (polygon_at level.polygons face);
  hole = is_hole level face;
  irregular = count_by (λ v. not (is_regular level v)) (polygon_at level.polygons face);
  sharp = count_by (is_sharp_inside level) (sides_of (polygon_at level.polygons face));
}

-- the face is no hole
abbrev pub is_selectable : FaceFacts → Bool
is_selectable facts = not facts.hole

-- the face is no hole, and either is no quad or has an irregular corner
abbrev pub is_feature : FaceFacts → Bool
is_feature facts = not facts.hole && (not (nat_eq facts.size 4) || nat_lt 0 facts.irregular)
