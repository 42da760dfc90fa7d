use Rattle.std.proofs.Common.{◌≡◌, ℕ, ◌<◌, false, length, take, get_or}
use Rattle.subdiv_model.specs.Sparse.{is_on}
use Rattle.sparse_level.specs.Places.{marked}
use Rattle.sparse_level.proofs.on.mark_points.Given as goal

-- the vertices on those of the faces so far that are selected
abbrev pub invariant-loop-f : goal.invariant-loop-f
invariant-loop-f l = record {
  count : length l.on.items ≡ l.level.level.point_count;
  marks : (u : ℕ) → u < l.level.level.point_count → get_or l.on.items u false ≡ is_on l.level.level.polygons (marked (take l.f l.selected)) u;
}
