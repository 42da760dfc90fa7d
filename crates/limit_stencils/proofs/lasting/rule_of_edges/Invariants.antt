use Rattle.std.proofs.Common.{◌≡◌, take}
use Rattle.limit_stencils.specs.AtVertex.{lasting_ends, rule_of_ends}
use Rattle.limit_stencils.proofs.lasting.rule_of_edges.Given as goal

-- the rule by the edges so far
abbrev pub invariant-loop-e : goal.invariant-loop-e
invariant-loop-e l = l.rule ≡ rule_of_ends (lasting_ends l.level.level l.v (take l.e-index l.e-items))
