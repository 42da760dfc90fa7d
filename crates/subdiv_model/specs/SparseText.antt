-- Texts of sparse levels: for each level a line with its counts, its points, and a line for each present face.
-- Source: Drillolive.
use Rattle.std.specs.Prelude.{ℕ, ◌+◌, pos, not, nat_eq, List, [], ◌∷◌, ◌++◌, length, map, get_or, Option, codes, if◌then◌else◌}
use Rattle.std.specs.List.{flat_map, position_or_len, range_with_len}
use Rattle.subdiv_model.specs.Lists.{each_once_by}
use Rattle.subdiv_model.specs.Polygons.{Polygon, polygon_at, is_among}
use Rattle.subdiv_model.specs.Level.{Level, is_hole}
use Rattle.subdiv_model.specs.Child.{refined_level}
use Rattle.subdiv_model.specs.Sparse.{FacePredicate, corners_of, inner, present, present_polygons, selected}
use Rattle.subdiv_model.specs.NumberText.{number_text}
use Rattle.subdiv_model.specs.Value.{whole_value}
use Rattle.subdiv_model.specs.Refined.{Point}
use Rattle.subdiv_model.specs.Text.{line_text, point_line}

-- the kind of a present face
pub data FaceKind : Type 0 where
  -- the face is a hole
  HoleFace : FaceKind
  -- the parent of the face is not selected
  OuterFace : FaceKind
  -- the face is selected
  SelectedFace : FaceKind
  -- the face is refined no further
  LeafFace : FaceKind

-- the first kind that fits a face of a level; no predicate has faces of the last level
abbrev pub kind_of_face : Level → FacePredicate → ℕ → ℕ → FaceKind
kind_of_face base predicate depth face =
    if is_hole (refined_level base depth) face then HoleFace
    else if not (is_among (inner base predicate depth) face) then OuterFace
    else if is_among (selected base predicate depth) face then SelectedFace
    else LeafFace

-- a present face as it is written: its kind, its number in the uniform level, and its corners among the written points, counted
-- from 0
pub record WrittenFace : Type 0 where
  pub kind : FaceKind
  pub number : ℕ
  pub corners : Polygon

-- the number of points of a sparse level, and its faces
pub record WrittenLevel : Type 0 where
  pub point_count : ℕ
  pub faces : List WrittenFace

-- the points that are written for a level: the corners of its present faces, by first appearance
abbrev pub written_points : Level → FacePredicate → ℕ → List ℕ
written_points base predicate depth = each_once_by nat_eq (corners_of (present_polygons base predicate depth))

-- a present face of a level as it is written
abbrev pub written_face : Level → FacePredicate → ℕ → ℕ → WrittenFace
written_face base predicate depth face = record {
  kind = kind_of_face base predicate depth face;
  number = face;
  corners = map (λ v. position_or_len (nat_eq v) (written_points base predicate depth)) (polygon_at (refined_level base depth).polygons face);
}

-- a sparse level as it is written
abbrev pub written_level : Level → FacePredicate → ℕ → WrittenLevel
written_level base predicate depth = record {
  point_count = length (written_points base predicate depth);
  faces = map (written_face base predicate depth) (present base predicate depth);
}

-- the letter of a kind of face
abbrev pub kind_text : FaceKind → List ℕ
kind_text HoleFace = codes "h"
kind_text OuterFace = codes "r"
kind_text SelectedFace = codes "s"
kind_text LeafFace = codes "l"

-- the line of a face, with corners counted from 1
abbrev pub sparse_face_line : WrittenFace → List ℕ
sparse_face_line face =
    line_text (codes "f") (kind_text face.kind ∷ number_text face.number ∷ map (λ corner. number_text (corner + 1)) face.corners)

-- the line with the counts of a level
abbrev pub sparse_level_line : ℕ → WrittenLevel → List ℕ
sparse_level_line depth level =
    line_text (codes "level")
    (number_text depth
    ∷ codes "points" ∷ number_text level.point_count
    ∷ codes "faces" ∷ number_text (length level.faces)
    ∷ [])

-- the points of a level that have these numbers
abbrev pub points_with : List Point → List ℕ → List Point
points_with points numbers = map (λ v. get_or points v (whole_value (pos 0), whole_value (pos 0), whole_value (pos 0))) numbers

-- the text of a level: its counts, its points in lowest terms or rounded to the given decimals, and its faces
abbrev pub sparse_level_text : Option ℕ → ℕ → WrittenLevel → List Point → List ℕ
sparse_level_text decimals depth level points =
    sparse_level_line depth level ++ (flat_map (point_line decimals) points ++ flat_map sparse_face_line level.faces)

-- the text of the levels from 0 to the depth, from the points of each uniform level
abbrev pub sparse_text : Option ℕ → (ℕ → List Point) → Level → FacePredicate → ℕ → List ℕ
sparse_text decimals points base predicate depth =
    flat_map (λ j. sparse_level_text decimals j (written_level base predicate j) (points_with (points j) (written_points base predicate j)))
    (range_with_len 0 (depth + 1))
