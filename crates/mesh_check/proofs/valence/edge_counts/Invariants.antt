use Rattle.std.proofs.Common.{◌≡◌, ℕ, ◌+◌, ◌*◌, ◌<◌, ◌≤◌, nat_eq, length, get_or}
use Rattle.std.specs.List.{All, count_by, sum_by}
use Rattle.level_builder.specs.Keys.{ends_of_key, each_once}
use Rattle.mesh_check.proofs.valence.edge_counts.Given as goal

-- the counts so far and those of the rest are all
abbrev pub invariant-loop-rest : goal.invariant-loop-rest
invariant-loop-rest l = record {
  counts : (v : ℕ) → get_or l.counts.items v 0 + sum_by (λ key. count_by (nat_eq v) (ends_of_key key)) (each_once l.rest) ≡ sum_by (λ key. count_by (nat_eq v) (ends_of_key key)) (each_once l.edges);
  size : length l.counts.items ≡ l.points;
  inside : All (λ key. All (λ v. v < l.points) (ends_of_key key)) l.rest;
  countable : (v : ℕ) → get_or l.counts.items v 0 + 2 * length (each_once l.rest) ≤ 2 * length (each_once l.edges);
}

abbrev pub decreases-loop-rest : goal.decreases-loop-rest
decreases-loop-rest l = length l.rest
