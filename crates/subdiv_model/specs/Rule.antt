-- The rule of a vertex, and the weight between the rules of two levels.
-- Source: DeRose, Kass and Truong 1998 for the rules; the weight at a vertex is Drillolive's.
use Rattle.std.specs.Prelude.{ℕ, ◌*◌, Bool, true, false, ◌&&◌, ◌||◌, nat_eq, nat_le, List, [], ◌∷◌, ◌++◌, length, map, zip, if◌then◌else◌}
use Rattle.std.specs.List.{flat_map}
use Rattle.subdiv_model.specs.Lists.{places}
use Rattle.subdiv_model.specs.Fractions.{lowest, sum_of_fractions}
use Rattle.subdiv_model.specs.Multiples.{common_denominator}
use Rattle.subdiv_model.specs.Sharpness.{Sharpness, Method, is_sharp, is_too_fine, semi_values, half_child}

-- the rule of a vertex; a crease has its two sharp edges by their places in the ring of all edges at the vertex, ascending
pub data Rule : Type 0 where
  SmoothRule : Rule
  DartRule : Rule
  CreaseRule : ℕ → ℕ → Rule
  CornerRule : Rule

-- the rule by the edges of sharpness above 0: none gives smooth, one dart, two crease, more corner
abbrev pub rule_of_sharp_edges : List ℕ → Rule
rule_of_sharp_edges [] = SmoothRule
rule_of_sharp_edges (first ∷ []) = DartRule
rule_of_sharp_edges (first ∷ (second ∷ [])) = CreaseRule first second
rule_of_sharp_edges (first ∷ (second ∷ (third ∷ more))) = CornerRule

-- the rule of a vertex; one that is sharp itself or has no edge is a corner
abbrev pub vertex_rule : Sharpness → List Sharpness → Rule
vertex_rule vertex ring =
    if is_sharp vertex || nat_eq (length ring) 0 then CornerRule else rule_of_sharp_edges (places is_sharp ring)

-- the rule is smooth or dart
abbrev pub is_smooth_or_dart : Rule → Bool
is_smooth_or_dart SmoothRule = true
is_smooth_or_dart DartRule = true
is_smooth_or_dart (CreaseRule first second) = false
is_smooth_or_dart CornerRule = false

-- the rule is a crease of the edges at these two places
abbrev pub is_crease_of : ℕ → ℕ → Rule → Bool
is_crease_of a b SmoothRule = false
is_crease_of a b DartRule = false
is_crease_of a b (CreaseRule first second) = nat_eq a first && nat_eq b second
is_crease_of a b CornerRule = false

-- the rule is corner
abbrev pub is_corner_rule : Rule → Bool
is_corner_rule SmoothRule = false
is_corner_rule DartRule = false
is_corner_rule (CreaseRule first second) = false
is_corner_rule CornerRule = true

-- the rules give the same mask: smooth and dart do, two creases with the same ends do, and two corners do
abbrev pub same_mask : Rule → Rule → Bool
same_mask SmoothRule other = is_smooth_or_dart other
same_mask DartRule other = is_smooth_or_dart other
same_mask (CreaseRule first second) other = is_crease_of first second other
same_mask CornerRule other = is_corner_rule other

-- the ring of a vertex in the next level, from the half of each edge at the vertex
abbrev pub child_ring : Method → List Sharpness → List Sharpness
child_ring method ring = map (half_child method ring) ring

-- the sharpness, if it is above 0 now and 0 in the next level; an infinite one never ends
abbrev pub ended_value : Sharpness × Sharpness → List (ℕ × ℕ)
ended_value s = if is_sharp s.1 then [] else semi_values s.0

-- the ended sharpnesses of the vertex and of its edges
abbrev pub ended_values : Sharpness → Sharpness → List Sharpness → List Sharpness → List (ℕ × ℕ)
ended_values vertex vertex_child ring ring_child =
    ended_value (vertex, vertex_child) ++ flat_map ended_value (zip ring ring_child)

-- the mean of fractions
abbrev pub mean_of : List (ℕ × ℕ) → ℕ × ℕ
mean_of values = let sum = sum_of_fractions values in (sum.0, sum.1 * length values)

-- the lesser of 1 and the fraction, in lowest terms
abbrev pub at_most_one : ℕ × ℕ → ℕ × ℕ
at_most_one x = if nat_le x.1 x.0 then (1, 1) else lowest x

-- the weight of the mask of this level, where the next level has another mask
abbrev pub transition_weight : Sharpness → Sharpness → List Sharpness → List Sharpness → ℕ × ℕ
transition_weight vertex vertex_child ring ring_child =
    at_most_one (mean_of (ended_values vertex vertex_child ring ring_child))

-- the denominator of the mean is too great: the number of values times their common denominator
abbrev pub transition_overflows : Sharpness → Sharpness → List Sharpness → List Sharpness → Bool
transition_overflows vertex vertex_child ring ring_child =
    let values = ended_values vertex vertex_child ring ring_child in is_too_fine (length values * common_denominator values)
