use Rattle.std.proofs.Common.{◌≡◌, ℕ, ◌<◌, false, IsTrue}
use Rattle.subdiv_model.specs.Channel.{transition_overflows_at}
use Rattle.level_topology.specs.Child.{FromVertex}
use Rattle.mask_rules.specs.View.{scheme_of}
use Rattle.child_masks.specs.Masks.{has_origin}
use Rattle.child_masks.proofs.transition.least_refused.Given as goal

-- no vertex before is refused
abbrev pub invariant-loop-v : goal.invariant-loop-v
invariant-loop-v l =
    (u : ℕ) → u < l.v → IsTrue (has_origin l.child.origins (FromVertex u)) → transition_overflows_at l.parent.level (scheme_of l.scheme) u ≡ false
