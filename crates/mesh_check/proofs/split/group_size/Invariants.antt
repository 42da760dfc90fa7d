use Rattle.std.proofs.Common.{◌≡◌, ◌+◌, nat_eq, length}
use Rattle.std.specs.List.{prefix_len}
use Rattle.mesh_check.proofs.split.group_size.Given as goal

-- the corners that were counted and those that are left are all
abbrev pub invariant-loop-rest : goal.invariant-loop-rest
invariant-loop-rest l = record {
  counted : l.size + prefix_len (λ turn. nat_eq l.v turn.vertex) l.rest ≡ prefix_len (λ turn. nat_eq l.v turn.vertex) l.turns;
  within : l.size + length l.rest ≡ length l.turns;
}

abbrev pub decreases-loop-rest : goal.decreases-loop-rest
decreases-loop-rest l = length l.rest
