use Rattle.std.proofs.Common.{◌∙◌, ap, ◌++◌, ◌∷◌, [], ℕ}
use Rattle.level_topology.proofs.ListPlaceLemmas.{push-range}
use Rattle.sparse_level.proofs.sparse.numbers_below.Goals as goal

pub loop-n-preserved : goal.loop-n-preserved
loop-n-preserved c =
    push-range [] c.loop-n.numbers.items c.push.new.self.items c.loop-n.n c.loop-n.invariant (c.in_ok-push.ensures.items ∙ ap (λ (k : ℕ). c.loop-n.numbers.items ++ k ∷ []) c.from.ensures)
