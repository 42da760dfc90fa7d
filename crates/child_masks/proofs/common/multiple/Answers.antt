use Rattle.std.proofs.Common.{◌∙◌}
use Rattle.child_masks.proofs.WithinLemmas.{multiple-within}
use Rattle.child_masks.proofs.common.multiple.Goals as goal

pub returns : goal.returns
returns c = c.unwrap_or.ensures ∙ multiple-within _ _ _ c.requires.c c.lcm_within.ensures.passed c.lcm_within.ensures.multiple c.lcm_within.ensures.within
