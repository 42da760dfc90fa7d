-- Points whose numbers are small.
use Rattle.std.specs.Prelude.{◌≡◌, ◌≤◌, unsigned_abs}
use Rattle.ratio128.specs.declared.point.Point3.{Point3}
use Rattle.ratio128.specs.declared.valued.Valued.{Valued}

-- a point over the denominator 1, whose numbers are at most 8
pub record IsNearPoint (p : Valued Point3) : Type 0 where
  pub one : p.den ≡ 1
  pub x : unsigned_abs p.value.x ≤ 8
  pub y : unsigned_abs p.value.y ≤ 8
  pub z : unsigned_abs p.value.z ≤ 8
