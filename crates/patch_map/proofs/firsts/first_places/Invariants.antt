use Rattle.std.proofs.Common.{◌≡◌, ℕ, ◌<◌, ◌≤◌, length, get_or, map}
use Rattle.std.specs.List.{range_with_len}
use Rattle.patch_map.specs.Map.{Rises, first_at}
use Rattle.patch_map.proofs.firsts.first_places.Given as goal

-- the numbers that were passed are below the start of each further face
abbrev pub invariant-loop-f : goal.invariant-loop-f
invariant-loop-f l = record {
  inside : l.place ≤ length l.numbers;
  below : Rises l.starts → (g k : ℕ) → l.f ≤ g → g < length l.starts → k < l.place → get_or l.numbers k 0 < get_or l.starts g 0;
  firsts : Rises l.starts → l.firsts.items ≡ map (first_at l.selected l.starts l.numbers) (range_with_len 0 l.f);
}
