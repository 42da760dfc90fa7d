use Rattle.std.proofs.Common.{◌≡◌, ◌<◌, drop}
use Rattle.stencil_session.specs.Tree.{IsTreeBut}
use Rattle.stencil_session.proofs.tree.mend.Given as goal

abbrev pub invariant-loop-at : goal.invariant-loop-at
invariant-loop-at l = record {
  below : l.at < l.leaves;
  tree : IsTreeBut l.at l.leaves l.tree.items;
  leaves : drop l.leaves l.tree.items ≡ drop l.leaves l.initial.tree.items;
}

abbrev pub decreases-loop-at : goal.decreases-loop-at
decreases-loop-at l = l.at
