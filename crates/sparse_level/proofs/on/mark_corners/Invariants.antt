use Rattle.std.proofs.Common.{◌≡◌, ℕ, ◌<◌, ◌||◌, false, length, take, get_or}
use Rattle.subdiv_model.specs.Polygons.{has_corner}
use Rattle.sparse_level.proofs.on.mark_corners.Given as goal

-- the corners so far are marked, besides those marked before
abbrev pub invariant-loop-v : goal.invariant-loop-v
invariant-loop-v l = record {
  count : length l.on.items ≡ length l.fn.on.items;
  marks : (u : ℕ) → u < length l.fn.on.items → get_or l.on.items u false ≡ (get_or l.fn.on.items u false || has_corner u (take l.v-index l.corners));
}
