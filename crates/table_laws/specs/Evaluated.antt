-- Tables of levels over control points.
-- Source: Drillolive.
use Rattle.std.specs.Prelude.{◌≡◌, ℕ, ◌<◌, ℤ, List, length}
use Rattle.subdiv_model.specs.Level.{Level}
use Rattle.subdiv_model.specs.Mask.{Scheme}
use Rattle.subdiv_model.specs.Refined.{Point, refined_points}
use Rattle.subdiv_model.specs.Table.{IsTable, level_table}
use Rattle.far_model.specs.Stored.{table_points}

-- a level with its control points, whole numbers over a common denominator, and its table after some steps, within its limits
pub record LevelOverControls : Type 0 where
  pub level : Level
  pub scheme : Scheme
  pub steps : ℕ
  pub common : ℕ
  pub controls : List (ℤ × ℤ × ℤ)
  pub one_each : length controls ≡ level.point_count
  pub above_zero : 0 < common
  pub is_table : IsTable (level_table level scheme steps)

-- the points that the table gives over the control points
abbrev pub evaluated_points : LevelOverControls → List Point
evaluated_points given = table_points (level_table given.level given.scheme given.steps) given.common given.controls

-- the points that the control points are refined to
abbrev pub points_after_steps : LevelOverControls → List Point
points_after_steps given = refined_points given.level given.scheme given.common given.controls given.steps
