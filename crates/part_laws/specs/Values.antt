-- Points of the next level of a part, and data that the part and the whole share.
use Rattle.std.specs.Prelude.{◌≡◌, ℕ, ◌<◌, pos, List, [], length, get_or, IsTrue}
use Rattle.subdiv_model.specs.Polygons.{Polygon, polygon_at}
use Rattle.subdiv_model.specs.Child.{child_level}
use Rattle.subdiv_model.specs.Mask.{Scheme, Mask, mask_of, child_masks}
use Rattle.subdiv_model.specs.Value.{Value, whole_value}
use Rattle.subdiv_model.specs.Refined.{point_value, child_values, child_denominators}
use Rattle.subdiv_model.specs.Support.{child_supports}
use Rattle.level_laws.specs.Children.{face_point_of, edge_point_of}
use Rattle.part_laws.specs.Parts.{IsWholeAt, is_corner}
use Rattle.part_laws.specs.Laws.{WholePoint, WholeEdge}
use Rattle.part_laws.specs.LevelParts.{LevelPart, polygons_of}
use Rattle.part_laws.specs.Children.{IsOverPoints, corner_of_child, name_next}

-- A point of the next level whose mask the part has: an old point, or the new point of a face or edge. The part has all faces at
-- the old point and along the edge.
pub data NextPoint (part : LevelPart) : Type 0 where
  Old : WholePoint (polygons_of part) → NextPoint part
  NewOfFace : (k : ℕ) → k < length part.level.polygons → NextPoint part
  NewOfEdge : WholeEdge (polygons_of part) → NextPoint part

-- the number of a next point in the next level of the part
abbrev pub number_of : {part : LevelPart} → NextPoint part → ℕ
number_of {part} (Old at) = at.point
number_of {part} (NewOfFace k inside) = face_point_of part.level k
number_of {part} (NewOfEdge along) = edge_point_of part.level along.edge

-- the point of this number in the next level of the part is one whose mask the part has
abbrev pub HasNextPoint : LevelPart → ℕ → Type 0
HasNextPoint part n = (x : NextPoint part) × (number_of x ≡ n)

-- a child face of a part, at a corner where the part has all faces
pub record WholeChild (part : LevelPart) : Type 0 where
  pub number : ℕ
  pub has_all : IsWholeAt part.faces part.whole.polygons (part.name (corner_of_child part.level number))

-- the corners of the child face
abbrev pub corners_of : {part : LevelPart} → WholeChild part → Polygon
corners_of {part} child = polygon_at (child_level part.level).polygons child.number

-- one point of the next level of a part over points, and a scheme
pub record NextStep : Type 0 where
  pub part : LevelPart
  pub over : IsOverPoints part
  pub scheme : Scheme
  pub point : NextPoint part

-- the number of the point in the next level of the part
abbrev pub number_in_part : NextStep → ℕ
number_in_part step = number_of step.point

-- the number of the point in the next level of the whole
abbrev pub number_in_whole : NextStep → ℕ
number_in_whole step = name_next step.part (number_of step.point)

-- the mask of the point in the part; an empty mask if there is no point
abbrev pub mask_in_part : NextStep → Mask
mask_in_part step = get_or (child_masks step.part.level step.scheme) (number_in_part step) (mask_of [] 1)

-- the mask of the point in the whole; an empty mask if there is no point
abbrev pub mask_in_whole : NextStep → Mask
mask_in_whole step = get_or (child_masks step.part.whole step.scheme) (number_in_whole step) (mask_of [] 1)

-- one item for each point of the part and of the whole, where each corner of the part has the item of its name
pub record SharedItems {X : Type 0} (part : LevelPart) (default : X) : Type 0 where
  pub of_part : List X
  pub of_whole : List X
  pub same : (p : ℕ) → IsTrue (is_corner part.level.polygons p) → get_or of_part p default ≡ get_or of_whole (part.name p) default

-- values of the points of the part and of the whole
abbrev pub SharedValues : NextStep → Type 0
SharedValues step = SharedItems step.part (whole_value (pos 0))

-- the value of the point in the part
abbrev pub value_in_part : (step : NextStep) → SharedValues step → Value
value_in_part step shared = point_value (child_values step.part.level step.scheme shared.of_part) (number_in_part step)

-- the value of the point in the whole
abbrev pub value_in_whole : (step : NextStep) → SharedValues step → Value
value_in_whole step shared = point_value (child_values step.part.whole step.scheme shared.of_whole) (number_in_whole step)

-- common denominators of the points of the part and of the whole
abbrev pub SharedDenominators : NextStep → Type 0
SharedDenominators step = SharedItems {X = ℕ} step.part 1

-- the common denominator of the point in the part
abbrev pub denominator_in_part : (step : NextStep) → SharedDenominators step → ℕ
denominator_in_part step shared = get_or (child_denominators step.part.level step.scheme shared.of_part) (number_in_part step) 1

-- the common denominator of the point in the whole
abbrev pub denominator_in_whole : (step : NextStep) → SharedDenominators step → ℕ
denominator_in_whole step shared = get_or (child_denominators step.part.whole step.scheme shared.of_whole) (number_in_whole step) 1

-- supports of the points of the part and of the whole, over a number of control points
abbrev pub SharedSupports : NextStep → Type 0
SharedSupports step = SharedItems {X = List ℕ} step.part []

-- the support of the point in the part, over a number of control points
abbrev pub support_in_part : ℕ → (step : NextStep) → SharedSupports step → List ℕ
support_in_part controls step shared = get_or (child_supports controls step.part.level step.scheme shared.of_part) (number_in_part step) []

-- the support of the point in the whole, over a number of control points
abbrev pub support_in_whole : ℕ → (step : NextStep) → SharedSupports step → List ℕ
support_in_whole controls step shared = get_or (child_supports controls step.part.whole step.scheme shared.of_whole) (number_in_whole step) []
