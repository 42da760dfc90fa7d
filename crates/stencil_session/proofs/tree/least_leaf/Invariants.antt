use Rattle.std.proofs.Common.{◌-◌}
use Rattle.stencil_session.specs.Tree.{IsFirstInRow}
use Rattle.stencil_session.proofs.tree.least_leaf.Given as goal

abbrev pub invariant-loop-node : goal.invariant-loop-node
invariant-loop-node l = IsFirstInRow l.leaves l.node l.tree.items

abbrev pub decreases-loop-node : goal.decreases-loop-node
decreases-loop-node l = l.leaves - l.node
