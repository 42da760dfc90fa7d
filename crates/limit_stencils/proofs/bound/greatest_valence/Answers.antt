use Rattle.std.proofs.Common.{rules}
use Rattle.limit_stencils.proofs.BoundLemmas.{valence-next}
use Rattle.limit_stencils.proofs.bound.greatest_valence.Goals as goal

pub loop-v-preserved : goal.loop-v-preserved
loop-v-preserved c = valence-next c.args.level.now.level c.loop-v.v _ _ c.loop-v.invariant (search rules)
