use Rattle.std.proofs.Common.{◌≡◌, ℕ, ◌<◌, []}
use Rattle.subdiv_model.specs.Limit.{cause_of_limit, limit_of}
use Rattle.limit_stencils.proofs.cause.check_points.Given as goal

-- the points so far have limit masks
abbrev pub invariant-loop-v : goal.invariant-loop-v
invariant-loop-v l = (u : ℕ) → u < l.v → cause_of_limit (limit_of l.level.level u) ≡ []
