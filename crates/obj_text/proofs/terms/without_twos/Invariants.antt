use Rattle.std.proofs.Common.{◌^◌, ◌≤◌, ◌≡◌, ◌-◌, ◌*◌}
use Rattle.obj_text.proofs.terms.without_twos.Given as goal

-- what was taken out so far
abbrev pub invariant-loop-left : goal.invariant-loop-left
invariant-loop-left l = record {
  value : l.amount ≡ l.rest * 2 ^ (l.most - l.left);
  few : l.left ≤ l.most;
}

abbrev pub decreases-loop-left : goal.decreases-loop-left
decreases-loop-left l = l.left
