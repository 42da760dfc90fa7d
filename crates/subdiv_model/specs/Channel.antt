-- A channel of values over the levels of a mesh, and the overflows of its numbers.
-- Source: Drillolive.
use Rattle.std.specs.Prelude.{ℕ, suc, ◌-◌, ◌*◌, ◌^◌, ℤ, unsigned_abs, Bool, false, not, ◌&&◌, nat_lt, max, List, [], ◌∷◌, ◌++◌, map, if◌then◌else◌}
use Rattle.std.specs.List.{list_any, flat_map, fold, range_with_len}
use Rattle.subdiv_model.specs.Sharpness.{is_chaikin, chaikin_overflows, uniform_child}
use Rattle.subdiv_model.specs.Rule.{same_mask, child_ring, transition_overflows}
use Rattle.subdiv_model.specs.Level.{Level, vertex_sharpness_of, ring_at}
use Rattle.subdiv_model.specs.Child.{refined_level}
use Rattle.subdiv_model.specs.Mask.{Scheme, CatmullClark, Linear, rule_at, child_rule_at}
use Rattle.subdiv_model.specs.Refined.{refined_denominators}
use Rattle.subdiv_model.specs.Support.{entries_after}
use Rattle.subdiv_model.specs.Fault.{Fault, TooLarge, Entries, Overflow, Track, OverflowKind, ChaikinOverflow, TransitionOverflow, DenominatorOverflow, ValueOverflow}

-- values to refine: the level they start from, the scheme, the greatest amount of a control numerator, and the common denominator
-- of the control numbers
pub record Channel : Type 0 where
  pub base : Level
  pub scheme : Scheme
  pub greatest : ℕ
  pub common : ℕ

-- the greatest denominator, and the greatest amount of a numerator over it
abbrev pub number_bound : ℕ
number_bound = 2 ^ 126 - 1

-- the most entries of a table
abbrev pub entry_bound : ℕ
entry_bound = 2 ^ 27

-- the greatest amount of the numbers, and 0 for an empty list
abbrev pub greatest_amount : List ℤ → ℕ
greatest_amount numbers = fold max 0 (map unsigned_abs numbers)

-- under the method chaikin, two or more semi-sharp edges meet at the point and the denominator of their halves is too great
abbrev pub chaikin_overflows_at : Level → ℕ → Bool
chaikin_overflows_at level v = is_chaikin level.method && chaikin_overflows (ring_at level v)

-- the scheme is Catmull-Clark, the point has different masks in its level and in the next, and their weight has too great a
-- denominator
abbrev pub transition_overflows_at : Level → Scheme → ℕ → Bool
transition_overflows_at level CatmullClark v =
    not (same_mask (rule_at level v) (child_rule_at level v))
    && transition_overflows (vertex_sharpness_of level v) (uniform_child (vertex_sharpness_of level v)) (ring_at level v) (child_ring level.method (ring_at level v))
transition_overflows_at level Linear v = false

-- the test holds at a point of the level
abbrev pub at_some_point : (ℕ → Bool) → Level → Bool
at_some_point test level = list_any test (range_with_len 0 level.point_count)

-- the level after k steps
abbrev pub channel_level : Channel → ℕ → Level
channel_level channel k = refined_level channel.base k

-- the common denominators of the points after k steps
abbrev pub denominators_after : Channel → ℕ → List ℕ
denominators_after channel k = refined_denominators channel.base channel.scheme k

-- the greatest common denominator after k steps
abbrev pub greatest_denominator : Channel → ℕ → ℕ
greatest_denominator channel k = fold max 1 (denominators_after channel k)

-- The levels of a track, whole or sparse, as far as their numbers matter. `asked` has the points of a level that have a point
-- in the next one. Each level also has the denominators of its points, and the number of entries of its table. All share the
-- scheme and the greatest whole number that multiplies a denominator.
pub record TrackLevels : Type 0 where
  pub scheme : Scheme
  pub most : ℕ
  pub level : ℕ → Level
  pub asked : ℕ → List ℕ
  pub denominators : ℕ → List ℕ
  pub entries : ℕ → ℕ

-- all points of the levels of a channel
abbrev pub whole_levels : Channel → TrackLevels
whole_levels channel = record {
  scheme = channel.scheme;
  most = max channel.greatest channel.common;
  level = channel_level channel;
  asked = λ k. range_with_len 0 (channel_level channel k).point_count;
  denominators = denominators_after channel;
  entries = entries_after channel.base channel.scheme;
}

-- the halves of edges overflow at a point of the level after k steps
abbrev pub has_chaikin_overflow : TrackLevels → ℕ → Bool
has_chaikin_overflow levels k = list_any (chaikin_overflows_at (levels.level k)) (levels.asked k)

-- the weight between two rules overflows at a point of the level after k steps
abbrev pub has_transition_overflow : TrackLevels → ℕ → Bool
has_transition_overflow levels k = list_any (transition_overflows_at (levels.level k) levels.scheme) (levels.asked k)

-- a common denominator after k + 1 steps passes the bound
abbrev pub has_denominator_overflow : TrackLevels → ℕ → Bool
has_denominator_overflow levels k = list_any (nat_lt number_bound) (levels.denominators (suc k))

-- the greatest denominator after k + 1 steps, times the greatest number it multiplies, passes the bound
abbrev pub has_value_overflow : TrackLevels → ℕ → Bool
has_value_overflow levels k = nat_lt number_bound (fold max 1 (levels.denominators (suc k)) * levels.most)

-- the table of the level has too many entries
abbrev pub has_many_entries : TrackLevels → ℕ → Bool
has_many_entries levels k = nat_lt entry_bound (levels.entries (suc k))

-- the parts that are judged at each level: sharpness; sharpness and values; or sharpness, values and table entries
pub data Asked : Type 0 where
  Sharpnesses : Asked
  Values : Asked
  Tables : Asked

-- the fault in a list, if the condition holds
abbrev pub fault_where : Bool → Fault → List Fault
fault_where stands fault = if stands then fault ∷ [] else []

-- the overflow of the level after k + 1 steps in a list, if the condition holds
abbrev pub overflow_where : Bool → Track → ℕ → OverflowKind → List Fault
overflow_where stands track k kind = fault_where stands (Overflow track (suc k) kind)

-- the faults of the values after k + 1 steps, where those of table entries come before a value overflow
abbrev pub value_faults : TrackLevels → Track → ℕ → List Fault → List Fault
value_faults levels track k entries =
    overflow_where (has_transition_overflow levels k) track k TransitionOverflow
    ++ (overflow_where (has_denominator_overflow levels k) track k DenominatorOverflow
    ++ (entries ++ overflow_where (has_value_overflow levels k) track k ValueOverflow))

-- the faults after those of sharpness, as far as they are asked for
abbrev pub asked_faults : Asked → TrackLevels → Track → ℕ → List Fault
asked_faults Sharpnesses levels track k = []
asked_faults Values levels track k = value_faults levels track k []
asked_faults Tables levels track k =
    value_faults levels track k (fault_where (has_many_entries levels k) (TooLarge (Entries (suc k))))

-- the faults of the level after k + 1 steps, in order
abbrev pub level_faults : Asked → TrackLevels → Track → ℕ → List Fault
level_faults asked levels track k =
    overflow_where (has_chaikin_overflow levels k) track k ChaikinOverflow ++ asked_faults asked levels track k

-- the faults of the first k levels, level by level
abbrev pub track_faults : Asked → TrackLevels → Track → ℕ → List Fault
track_faults asked levels track depth = flat_map (level_faults asked levels track) (range_with_len 0 depth)

-- the faults of the whole levels of a channel to a depth
abbrev pub channel_faults : Asked → Channel → Track → ℕ → List Fault
channel_faults asked channel track depth = track_faults asked (whole_levels channel) track depth
