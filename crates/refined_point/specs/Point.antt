-- One point of a refined mesh.
use Rattle.std.specs.Prelude.{ℕ, ◌≡◌, ◌<◌, ◌≤◌, length, get_or}
use Rattle.ratio128.specs.declared.valued.Valued.{Valued}
use Rattle.ratio128.specs.declared.point.Point3.{Point3}
use Rattle.mesh_arrays.specs.declared.arrays.MeshArrays.{MeshArrays}
use Rattle.array_answers.specs.declared.points.RefinedPoints.{RefinedPoints}
use Rattle.array_answers.specs.Composed.{ArePointsOf}

-- the refined points of a mesh have one with this number
pub record IsPointAt (mesh : MeshArrays) (depth number : ℕ) (point : Valued Point3) : Type 0 where
  pub refined : RefinedPoints
  pub points : ArePointsOf mesh depth refined
  pub inside : number < length refined.points.items
  pub is : point ≡ get_or refined.points.items number point

-- the refined points of a mesh are no more than this number
pub record EndBefore (mesh : MeshArrays) (depth number : ℕ) : Type 0 where
  pub refined : RefinedPoints
  pub points : ArePointsOf mesh depth refined
  pub past : length refined.points.items ≤ number
