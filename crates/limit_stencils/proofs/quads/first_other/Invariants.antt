use Rattle.std.proofs.Common.{◌≡◌, ℕ, ◌<◌, length}
use Rattle.subdiv_model.specs.Polygons.{polygon_at}
use Rattle.limit_stencils.proofs.quads.first_other.Given as goal

-- the faces so far have four corners
abbrev pub invariant-loop-f : goal.invariant-loop-f
invariant-loop-f l = (g : ℕ) → g < l.f → length (polygon_at l.level.level.polygons g) ≡ 4
