use Rattle.std.proofs.Common.{◌≡◌, ℕ, ◌+◌, nat_eq, length, get_or, take}
use Rattle.std.specs.List.{count_by}
use Rattle.mesh_check.proofs.base_corners.count_face.Given as goal

-- the corners before this one are counted
abbrev pub invariant-loop-v : goal.invariant-loop-v
invariant-loop-v l = record {
  counts : (v : ℕ) → get_or l.counts.items v 0 ≡ get_or l.fn.counts.items v 0 + count_by (nat_eq v) (take l.v-index l.face);
  size : length l.counts.items ≡ length l.fn.counts.items;
}
