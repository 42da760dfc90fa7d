-- The bound of the denominators of limit points.
-- Source: Drillolive.
use Rattle.std.specs.Prelude.{ℕ, ◌+◌, ◌*◌, nat_le, max, List, length, map, Option, Some, None, if◌then◌else◌}
use Rattle.std.specs.List.{fold, range_with_len}
use Rattle.subdiv_model.specs.Level.{Level, edges_at}
use Rattle.subdiv_model.specs.Multiples.{lcm_of_all}
use Rattle.stencil_apply.specs.Means.{word_bound}

-- the greatest number of edges at a point, and 0 for a level without points
abbrev pub greatest_valence : Level → ℕ
greatest_valence level = fold max 0 (map (λ v. length (edges_at level v)) (range_with_len 0 level.point_count))

-- the greatest denominator of a limit mask at a point of at most n edges: that of a smooth point of n edges, or that of a crease
abbrev pub mask_bound : ℕ → ℕ
mask_bound n = max (n * (n + 5)) 6

-- the number, if it is at most 2^63 - 1
abbrev pub within_word : ℕ → Option ℕ
within_word n = if nat_le n word_bound then Some n else None

-- the greatest denominator of a limit mask of the level, times the least common multiple of the denominators, if it is at most 2^63 - 1
abbrev pub denominator_bound : Level → List ℕ → Option ℕ
denominator_bound level dens = within_word (mask_bound (greatest_valence level) * lcm_of_all dens)
