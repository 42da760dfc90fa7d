-- The halves of the edges at a vertex, for the whole ring at once.
use Rattle.std.specs.Prelude.{◌≡◌, ℕ, ◌-◌, ◌*◌, ◌<◌, ◌≤◌, Bool, true, ◌&&◌, List, length, map}
use Rattle.std.specs.List.{flat_map}
use Rattle.subdiv_model.specs.Multiples.{common_denominator}
use Rattle.subdiv_model.specs.Sharpness as model
use Rattle.subdiv_model.specs.Sharpness.{semi_values, is_chaikin, is_too_fine, chaikin_overflows, half_child}
use Rattle.sharpness_rules.specs.declared.child.Method.{Method}
use Rattle.sharpness_rules.specs.declared.child.Method.TheVariants.{Normal, Chaikin}
use Rattle.sharpness_rules.specs.declared.sharpness.Sharpness.{Sharpness}
use Rattle.sharpness_rules.specs.declared.halves.HalvesRule.{HalvesRule}
use Rattle.sharpness_rules.specs.declared.halves.HalvesRule.TheVariants.{Uniform, Shared, TooFine}
use Rattle.sharpness_rules.specs.declared.halves.Halves.{Halves}
use Rattle.sharpness_rules.specs.Totals.{IsTotal}
use Rattle.sharpness_rules.specs.View.{sharpness_of, method_of}

-- The rule of the method `Chaikin` for semi-sharp edges with these values. Fewer than two lose 1, more share their sum, or the
-- denominator is too great.
abbrev pub IsHalvesRuleOfValues : List (ℕ × ℕ) → HalvesRule → Type 0
IsHalvesRuleOfValues values Uniform = length values < 2
IsHalvesRuleOfValues values (Shared shares) = IsTotal values shares.total
IsHalvesRuleOfValues values TooFine = (2 ≤ length values) × (is_too_fine (4 * (length values - 1) * common_denominator values) ≡ true)

-- The rule of the method `Chaikin` for the edges of a ring.
abbrev pub IsHalvesRuleOfRing : List model.Sharpness → HalvesRule → Type 0
IsHalvesRuleOfRing ring rule = IsHalvesRuleOfValues (flat_map semi_values ring) rule

-- The halves by a method of the edges of a ring.
abbrev pub AreHalves : Method → List Sharpness → Halves → Type 0
AreHalves Normal ring halves = halves.rule ≡ Uniform
AreHalves Chaikin ring halves = IsHalvesRuleOfRing (map sharpness_of ring) halves.rule

-- The semi-sharp edges of the ring have no halves by the method.
abbrev pub halves_overflow : Method → List Sharpness → Bool
halves_overflow method ring = is_chaikin (method_of method) && chaikin_overflows (map sharpness_of ring)

-- The half of an edge of this sharpness in the ring, by the method.
abbrev pub half_in : Method → List Sharpness → Sharpness → model.Sharpness
half_in method ring s = half_child (method_of method) (map sharpness_of ring) (sharpness_of s)

-- The result is the half of an edge of this sharpness in the ring, by the method.
abbrev pub IsHalfIn : Method → List Sharpness → Sharpness → Sharpness → Type 0
IsHalfIn method ring s half = sharpness_of half ≡ half_in method ring s
