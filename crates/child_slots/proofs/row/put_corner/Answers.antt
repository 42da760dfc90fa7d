use Rattle.std.proofs.Common.{◌∙◌, ◌++◌, ◌∷◌, [], ap, sym, List, ℕ}
use Rattle.child_slots.proofs.row.put_corner.Goals as goal
use Rattle.level_topology.proofs.ListPlaceLemmas.{replicate-push}

pub loop-i-preserved : goal.loop-i-preserved
loop-i-preserved c = c.in_ok-push.ensures.items ∙ ap (λ (xs : List ℕ). xs ++ c.args.corner ∷ []) c.loop-i.invariant ∙ sym (replicate-push c.loop-i._i c.args.corner)
