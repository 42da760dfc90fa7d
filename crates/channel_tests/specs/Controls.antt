-- Points that are controls of a channel.
use Rattle.std.specs.Prelude.{ℕ, ◌≡◌, ◌≤◌, unsigned_abs}
use Rattle.ratio128.specs.declared.point.Point3.{Point3}
use Rattle.ratio128.specs.declared.valued.Valued.{Valued}

-- whole numbers with at most this amount
pub record IsControl (greatest : ℕ) (p : Valued Point3) : Type 0 where
  pub whole : p.den ≡ 1
  pub x : unsigned_abs p.value.x ≤ greatest
  pub y : unsigned_abs p.value.y ≤ greatest
  pub z : unsigned_abs p.value.z ≤ greatest
