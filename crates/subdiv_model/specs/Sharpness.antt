-- Sharpness of edges and vertices, and the sharpness of the next level.
-- Source: DeRose, Kass and Truong 1998 for semi-sharp creases; the rule named `chaikin` is Drillolive's.
use Rattle.std.specs.Prelude.{ℕ, zero, suc, ◌-◌, ◌*◌, ◌^◌, Bool, true, false, ◌&&◌, nat_eq, nat_le, nat_lt, List, [], ◌∷◌, length, get_or, if◌then◌else◌}
use Rattle.std.specs.List.{flat_map}
use Rattle.subdiv_model.specs.Fractions.{gcd_of, lowest, plus_fraction, minus_fraction, times_fraction, sum_of_fractions}
use Rattle.subdiv_model.specs.Multiples.{common_denominator}

-- smooth is sharpness 0; a semi-sharp value is a fraction in lowest terms, above 0 and below 10
pub data Sharpness : Type 0 where
  Smooth : Sharpness
  Semi : ℕ → ℕ → Sharpness
  Infinite : Sharpness

-- how the halves of an edge get their sharpness
pub data Method : Type 0 where
  Normal : Method
  Chaikin : Method

-- the method is Chaikin
abbrev pub is_chaikin : Method → Bool
is_chaikin Normal = false
is_chaikin Chaikin = true

-- the semi-sharp value of a fraction, in lowest terms
abbrev pub semi_of : ℕ × ℕ → Sharpness
semi_of x = Semi x.0 x.1

-- the sharpness of a fraction above 0: infinite from 10 on
abbrev pub sharpness_above_zero : ℕ → ℕ → Sharpness
sharpness_above_zero num den = if nat_le (10 * den) num then Infinite else semi_of (lowest (num, den))

-- the sharpness of a fraction: smooth at 0, infinite from 10 on
abbrev pub sharpness_of : ℕ → ℕ → Sharpness
sharpness_of zero den = Smooth
sharpness_of (suc num) den = sharpness_above_zero (suc num) den

-- the sharpness of a fraction given as a pair
abbrev pub sharpness_of_fraction : ℕ × ℕ → Sharpness
sharpness_of_fraction x = sharpness_of x.0 x.1

-- the sharpness is above 0
abbrev pub is_sharp : Sharpness → Bool
is_sharp Smooth = false
is_sharp (Semi num den) = true
is_sharp Infinite = true

-- the sharpness is above 0 and not infinite
abbrev pub is_semi_sharp : Sharpness → Bool
is_semi_sharp Smooth = false
is_semi_sharp (Semi num den) = true
is_semi_sharp Infinite = false

-- a semi-sharp value is in lowest terms, above 0 and below 10
abbrev pub is_proper_sharpness : Sharpness → Bool
is_proper_sharpness Smooth = true
is_proper_sharpness (Semi num den) = nat_lt 0 num && (nat_lt num (10 * den) && nat_eq (gcd_of num den) 1)
is_proper_sharpness Infinite = true

-- the uniform method: smooth and infinite stay, and any other sharpness is decreased by 1, to at least 0
abbrev pub uniform_child : Sharpness → Sharpness
uniform_child Smooth = Smooth
uniform_child (Semi num den) = sharpness_of_fraction (minus_fraction (num, den) (1, 1))
uniform_child Infinite = Infinite

-- the value of a semi-sharp edge in a list, which is empty for others
abbrev pub semi_values : Sharpness → List (ℕ × ℕ)
semi_values Smooth = []
semi_values (Semi num den) = (num, den) ∷ []
semi_values Infinite = []

-- The Chaikin value of s, one of `count` semi-sharp edges at a vertex whose sum is `total`. It is 3s/4 + (total - s) / (4 (count
-- - 1)) - 1, or 0 if that is below 0.
abbrev pub chaikin_value : ℕ × ℕ → ℕ × ℕ → ℕ → ℕ × ℕ
chaikin_value s total count =
    minus_fraction (plus_fraction (times_fraction (3, 4) s) (times_fraction (1, 4 * (count - 1)) (minus_fraction total s))) (1, 1)

-- the sharpness of the half of a semi-sharp edge at a vertex, where `values` are those of all semi-sharp edges there
abbrev pub chaikin_half : List (ℕ × ℕ) → ℕ × ℕ → Sharpness
chaikin_half values s =
    if nat_le 2 (length values) then sharpness_of_fraction (chaikin_value s (sum_of_fractions values) (length values)) else uniform_child (semi_of s)

-- The Chaikin method for an edge of this sharpness in the ring of a vertex. Only semi-sharp edges are counted and summed; smooth
-- and infinite edges stay.
abbrev pub chaikin_child_of : List Sharpness → Sharpness → Sharpness
chaikin_child_of ring Smooth = Smooth
chaikin_child_of ring (Semi num den) = chaikin_half (flat_map semi_values ring) (num, den)
chaikin_child_of ring Infinite = Infinite

-- the Chaikin child of the edge at a place of the ring
abbrev pub chaikin_child : List Sharpness → ℕ → Sharpness
chaikin_child ring place = chaikin_child_of ring (get_or ring place Smooth)

-- the number is too great as denominator of a sharpness or a weight
abbrev pub is_too_fine : ℕ → Bool
is_too_fine den = nat_lt (2 ^ 60) den

-- The denominator of the Chaikin halves is too great: 4 (count - 1) times the common denominator of the semi-sharp edges. A
-- single such edge takes the uniform method.
abbrev pub chaikin_overflows : List Sharpness → Bool
chaikin_overflows ring =
    let values = flat_map semi_values ring in nat_le 2 (length values) && is_too_fine (4 * (length values - 1) * common_denominator values)

-- the edge at a place of the ring has no Chaikin half
abbrev pub half_overflows : List Sharpness → ℕ → Bool
half_overflows ring place = is_semi_sharp (get_or ring place Smooth) && chaikin_overflows ring

-- the sharpness of the half of an edge at a vertex, by method
abbrev pub half_child : Method → List Sharpness → Sharpness → Sharpness
half_child Normal ring s = uniform_child s
half_child Chaikin ring s = chaikin_child_of ring s
