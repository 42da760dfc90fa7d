use Rattle.std.proofs.Common.{◌∙◌}
use Rattle.child_masks.proofs.WithinLemmas.{scaled-within}
use Rattle.child_masks.proofs.common.scaled.Goals as goal

pub returns : goal.returns
returns c a factor some h =
    c.unwrap_or.ensures ∙ scaled-within _ _ a _ c.times_within.ensures.passed c.times_within.ensures.product c.times_within.ensures.within factor some h
