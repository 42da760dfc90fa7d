use Rattle.std.proofs.Common.{ℕ, ◌<◌}
use Rattle.limit_stencils.specs.Smooth.{IsSmoothAt}
use Rattle.limit_stencils.proofs.smooth.is_smooth.Given as goal

-- the points so far are smooth
abbrev pub invariant-loop-v : goal.invariant-loop-v
invariant-loop-v l = (u : ℕ) → u < l.v → IsSmoothAt l.level u
