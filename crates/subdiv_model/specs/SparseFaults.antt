-- The overflows of sparse levels, and sparse levels with too many faces.
-- Source: Drillolive.
use Rattle.std.specs.Prelude.{ℕ, suc, nat_lt, List, ◌++◌, length, map, max, get_or, []}
use Rattle.std.specs.List.{filter, flat_map, sum_by, range_with_len}
use Rattle.subdiv_model.specs.Polygons.{is_among}
use Rattle.subdiv_model.specs.Level.{Level}
use Rattle.subdiv_model.specs.Support.{refined_supports}
use Rattle.subdiv_model.specs.Channel.{Channel, TrackLevels, Asked, channel_level, denominators_after, fault_where, level_faults}
use Rattle.subdiv_model.specs.Limits.{face_limit}
use Rattle.subdiv_model.specs.Fault.{Fault, Track, TooLarge, LevelFaces}
use Rattle.subdiv_model.specs.Sparse.{FacePredicate, present, present_points}

-- the points of a level that have a point in the next one
abbrev pub points_with_child : Level → FacePredicate → ℕ → ℕ → List ℕ
points_with_child base predicate count k = filter (is_among (present_points base predicate (suc k))) (range_with_len 0 count)

-- the common denominators of the present points
abbrev pub present_denominators : Channel → FacePredicate → ℕ → List ℕ
present_denominators channel predicate k = map (λ p. get_or (denominators_after channel k) p 1) (present_points channel.base predicate k)

-- the number of entries of the table of the present points
abbrev pub present_entries : Channel → FacePredicate → ℕ → ℕ
present_entries channel predicate k =
    sum_by (λ p. length (get_or (refined_supports channel.base channel.scheme k) p [])) (present_points channel.base predicate k)

-- the sparse levels of a channel, each with its present points
abbrev pub sparse_levels : Channel → FacePredicate → TrackLevels
sparse_levels channel predicate = record {
  scheme = channel.scheme;
  most = max channel.greatest channel.common;
  level = channel_level channel;
  asked = λ k. points_with_child channel.base predicate (channel_level channel k).point_count k;
  denominators = present_denominators channel predicate;
  entries = present_entries channel predicate;
}

-- the number of present faces of a level
abbrev pub present_faces : Level → FacePredicate → ℕ → ℕ
present_faces base predicate k = length (present base predicate k)

-- the faults of the level after k + 1 steps: too many present faces, or an overflow
abbrev pub sparse_level_faults : Asked → Channel → FacePredicate → Track → ℕ → List Fault
sparse_level_faults asked channel predicate track k =
    fault_where (nat_lt face_limit (present_faces channel.base predicate (suc k))) (TooLarge (LevelFaces (suc k) (present_faces channel.base predicate (suc k))))
    ++ level_faults asked (sparse_levels channel predicate) track k

-- the faults of the first k sparse levels, level by level
abbrev pub sparse_faults : Asked → Channel → FacePredicate → Track → ℕ → List Fault
sparse_faults asked channel predicate track depth = flat_map (sparse_level_faults asked channel predicate track) (range_with_len 0 depth)
