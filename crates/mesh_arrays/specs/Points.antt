-- Points as numerators over their own denominators times a common factor.
use Rattle.std.specs.Prelude.{ℕ, ◌*◌, ◌^◌, ◌<◌, ℤ, unsigned_abs, List, [], ◌∷◌, map, flat_map}
use Rattle.ratio128.specs.declared.point.Point3.{Point3}
use Rattle.ratio128.specs.declared.valued.Valued.{Valued}

-- The denominator of the point is from 1 to 2^126 - 1, and each numerator is below 2^127 in amount.
pub record CanBePut (common : ℕ) (p : Valued Point3) : Type 0 where
  pub positive : 0 < p.den * common
  pub short : p.den * common < 2 ^ 126
  pub x : unsigned_abs p.value.x < 2 ^ 127
  pub y : unsigned_abs p.value.y < 2 ^ 127
  pub z : unsigned_abs p.value.z < 2 ^ 127

-- The three numerators of a point.
abbrev pub numerators_of : Valued Point3 → List ℤ
numerators_of p = p.value.x ∷ p.value.y ∷ p.value.z ∷ []

-- The three coordinates of a point: numerators with their denominator.
abbrev pub coordinates_of : ℕ → Valued Point3 → List (ℤ × ℕ)
coordinates_of common p = (p.value.x, p.den * common) ∷ (p.value.y, p.den * common) ∷ (p.value.z, p.den * common) ∷ []

-- The coordinates of points, point by point.
abbrev pub coordinates : ℕ → List (Valued Point3) → List (ℤ × ℕ)
coordinates common points = flat_map (coordinates_of common) points

-- The numerators of points, point by point.
abbrev pub all_numerators : List (Valued Point3) → List ℤ
all_numerators points = flat_map numerators_of points

-- The denominator of each point.
abbrev pub all_denominators : ℕ → List (Valued Point3) → List ℕ
all_denominators common points = map (λ p. p.den * common) points
