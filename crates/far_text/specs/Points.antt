-- Points as numerators over their own denominators, all over a common one.
use Rattle.std.specs.Prelude.{ℕ, ◌*◌, ◌^◌, ◌<◌, ℤ, unsigned_abs, List, map}
use Rattle.ratio128.specs.declared.point.Point3.{Point3}
use Rattle.ratio128.specs.declared.valued.Valued.{Valued}
use Rattle.subdiv_model.specs.Value.{Value, IsSameValue}
use Rattle.subdiv_model.specs.Refined.{Point, over_common}

-- a numerator over the point's denominator times the common one
abbrev pub coordinate_of : ℕ → ℕ → ℤ → Value
coordinate_of common den n = over_common common (record { num = n; den = den })

-- a point with numerators as a point of the definitions
abbrev pub point_of : ℕ → Valued Point3 → Point
point_of common p = (coordinate_of common p.den p.value.x, coordinate_of common p.den p.value.y, coordinate_of common p.den p.value.z)

-- points with numerators as points of the definitions
abbrev pub points_of : ℕ → List (Valued Point3) → List Point
points_of common points = map (point_of common) points

-- a point can be written: its denominator times the common one is above 0 and below 2^126, and its numerators are below 2^127 in amount
pub record CanBeWritten (common : ℕ) (p : Valued Point3) : Type 0 where
  pub positive : 0 < p.den * common
  pub short : p.den * common < 2 ^ 126
  pub x : unsigned_abs p.value.x < 2 ^ 127
  pub y : unsigned_abs p.value.y < 2 ^ 127
  pub z : unsigned_abs p.value.z < 2 ^ 127

-- two points are the same if their coordinates are, each over a denominator of at least 1
pub record IsSamePoint (p q : Point) : Type 0 where
  pub x : IsSameValue p.0 q.0
  pub y : IsSameValue p.1 q.1
  pub z : IsSameValue p.2 q.2

-- the denominators of a point's coordinates are above 0
pub record HasDenominators (p : Point) : Type 0 where
  pub x : 0 < p.0.den
  pub y : 0 < p.1.den
  pub z : 0 < p.2.den
