use Rattle.std.proofs.Common.{ℕ, ◌-◌, ◌<◌, ◌≤◌, length, get_or}
use Rattle.patch_map.proofs.firsts.place_from.Given as goal

-- the numbers that were passed are below the start
abbrev pub invariant-loop-place : goal.invariant-loop-place
invariant-loop-place l = record {
  low : l.from ≤ l.place;
  inside : l.place ≤ length l.numbers;
  below : (k : ℕ) → l.from ≤ k → k < l.place → get_or l.numbers k 0 < l.start;
}

abbrev pub decreases-loop-place : goal.decreases-loop-place
decreases-loop-place l = length l.numbers - l.place
