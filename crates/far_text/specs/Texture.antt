-- Texture points as numerators over their own denominators, all over a common one.
use Rattle.std.specs.Prelude.{ℕ, ◌*◌, ◌^◌, ◌<◌, unsigned_abs, List, map}
use Rattle.ratio128.specs.declared.point.Point2.{Point2}
use Rattle.ratio128.specs.declared.valued.Valued.{Valued}
use Rattle.subdiv_model.specs.Value.{Value, IsSameValue}
use Rattle.far_text.specs.Points.{coordinate_of}

-- a texture point with numerators as one of the definitions
abbrev pub texture_point_of : ℕ → Valued Point2 → Value × Value
texture_point_of common p = (coordinate_of common p.den p.value.u, coordinate_of common p.den p.value.v)

-- texture points with numerators as those of the definitions
abbrev pub texture_points_of : ℕ → List (Valued Point2) → List (Value × Value)
texture_points_of common points = map (texture_point_of common) points

-- the fractions can be written
pub record CanTextureBeWritten (common : ℕ) (p : Valued Point2) : Type 0 where
  pub positive : 0 < p.den * common
  pub short : p.den * common < 2 ^ 126
  pub u : unsigned_abs p.value.u < 2 ^ 127
  pub v : unsigned_abs p.value.v < 2 ^ 127

-- two texture points are the same if their coordinates are, each over a denominator of at least 1
pub record IsSameTexturePoint (p q : Value × Value) : Type 0 where
  pub u : IsSameValue p.0 q.0
  pub v : IsSameValue p.1 q.1

-- the denominators of a texture point's coordinates are above 0
pub record HasTextureDenominators (p : Value × Value) : Type 0 where
  pub u : 0 < p.0.den
  pub v : 0 < p.1.den
