-- The numerators of texture values.
use Rattle.std.specs.Prelude.{ℤ, List, [], ◌∷◌, flat_map}
use Rattle.ratio128.specs.declared.point.Point2.{Point2}

-- The two numerators of a value.
abbrev pub value_numerators_of : Point2 → List ℤ
value_numerators_of p = p.u ∷ p.v ∷ []

-- The numerators of values, value by value.
abbrev pub all_value_numerators : List Point2 → List ℤ
all_value_numerators values = flat_map value_numerators_of values
