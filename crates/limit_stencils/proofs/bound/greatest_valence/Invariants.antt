use Rattle.std.proofs.Common.{◌≡◌, max, length, map}
use Rattle.std.specs.List.{fold, range_with_len}
use Rattle.subdiv_model.specs.Level.{edges_at}
use Rattle.limit_stencils.proofs.bound.greatest_valence.Given as goal

-- the greatest number of edges at the points so far
abbrev pub invariant-loop-v : goal.invariant-loop-v
invariant-loop-v l = l.greatest ≡ fold max 0 (map (λ v. length (edges_at l.level.level v)) (range_with_len 0 l.v))
