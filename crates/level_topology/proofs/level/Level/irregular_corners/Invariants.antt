use Rattle.std.proofs.Common.{◌≡◌, not, take}
use Rattle.std.specs.List.{count_by}
use Rattle.subdiv_model.specs.Feature.{is_regular}
use Rattle.level_topology.proofs.level.Level.irregular_corners.Given as goal

-- the corners so far
abbrev pub invariant-loop-v : goal.invariant-loop-v
invariant-loop-v l = l.count ≡ count_by (λ v. not (is_regular l.self.level v)) (take l.v-index l.v-items)
