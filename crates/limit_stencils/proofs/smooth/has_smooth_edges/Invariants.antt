use Rattle.std.proofs.Common.{◌≡◌, ℕ, ◌<◌, get_or}
use Rattle.subdiv_model.specs.Sharpness.{Smooth}
use Rattle.limit_stencils.proofs.smooth.has_smooth_edges.Given as goal

-- the edges so far are smooth
abbrev pub invariant-loop-e : goal.invariant-loop-e
invariant-loop-e l = (d : ℕ) → d < l.e → get_or l.level.level.edge_sharpness d Smooth ≡ Smooth
