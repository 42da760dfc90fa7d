use Rattle.std.proofs.Common.{◌≡◌, length}
use Rattle.mesh_check.specs.Chain.{goes_on, is_long_walk}
use Rattle.mesh_check.proofs.chain.is_long_walk.Given as goal

-- the rest of the walk decides
abbrev pub invariant-loop-steps : goal.invariant-loop-steps
invariant-loop-steps l = record {
  decides : goes_on 1 l.next l.marks.items l.steps l.i ≡ is_long_walk l.next l.start;
  size : length l.marks.items ≡ length l.next;
}

abbrev pub decreases-loop-steps : goal.decreases-loop-steps
decreases-loop-steps l = l.steps
