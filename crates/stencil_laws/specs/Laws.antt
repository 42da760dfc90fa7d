-- A refined point, its support, its value and the shares of control points, for the laws of supports.
-- Source: Drillolive.
use Rattle.std.specs.Prelude.{◌≡◌, ℕ, ◌<◌, ℤ, pos, List, [], get_or, IsTrue}
use Rattle.std.specs.List.{range_with_len}
use Rattle.subdiv_model.specs.Polygons.{is_among}
use Rattle.subdiv_model.specs.Level.{Level}
use Rattle.subdiv_model.specs.Child.{refined_level}
use Rattle.subdiv_model.specs.Mask.{Scheme}
use Rattle.subdiv_model.specs.Value.{Value}
use Rattle.subdiv_model.specs.Refined.{control_values, point_value, refined_denominators, refined_values}
use Rattle.subdiv_model.specs.Support.{refined_supports, stencil_numerator}
use Rattle.mask_laws.specs.Laws.{Controls, HasMeansInSteps}
use Rattle.stencil_laws.specs.Rows.{value_of_shares}

-- a point, by its number, after a number of steps of a scheme from a level
pub record RefinedPoint : Type 0 where
  pub level : Level
  pub scheme : Scheme
  pub steps : ℕ
  pub number : ℕ

-- the level after the steps has a point of this number
abbrev pub IsInLevel : RefinedPoint → Type 0
IsInLevel point = point.number < (refined_level point.level point.steps).point_count

-- the masks of each step up to the point are means
abbrev pub IsMadeByMeans : RefinedPoint → Type 0
IsMadeByMeans point = HasMeansInSteps point.level point.scheme point.steps

-- the control points that the point depends on
abbrev pub support_of : RefinedPoint → List ℕ
support_of point = get_or (refined_supports point.level point.scheme point.steps) point.number []

-- all control points of the level that the point is refined from
abbrev pub all_controls : RefinedPoint → List ℕ
all_controls point = range_with_len 0 point.level.point_count

-- the common denominator of the point
abbrev pub denominator_of : RefinedPoint → ℕ
denominator_of point = get_or (refined_denominators point.level point.scheme point.steps) point.number 1

-- the share of a control point in the point
abbrev pub share_of : RefinedPoint → ℕ → ℕ
share_of point control = stencil_numerator point.level point.scheme point.steps point.number control

-- the value of the point, refined from the control numbers
abbrev pub value_of : RefinedPoint → List ℤ → Value
value_of point numbers = point_value (refined_values point.level point.scheme (control_values numbers) point.steps) point.number

-- the value that the shares of the listed control points give the point
abbrev pub value_by_shares : RefinedPoint → List ℤ → List ℕ → Value
value_by_shares point numbers controls = value_of_shares point.level point.scheme numbers point.steps point.number controls

-- both lists have the same number at each of these control points
abbrev pub AgreeAt : List ℕ → List ℤ → List ℤ → Type 0
AgreeAt controls numbers others = (v : ℕ) → IsTrue (is_among controls v) → get_or numbers v (pos 0) ≡ get_or others v (pos 0)

-- both lists of control numbers have the same number at each control point of the support
abbrev pub AgreeOnSupport : (point : RefinedPoint) → Controls point.level → Controls point.level → Type 0
AgreeOnSupport point controls others = AgreeAt (support_of point) controls.numbers others.numbers
