use Rattle.std.proofs.Common.{sym, ◌∙◌}
use Rattle.limit_stencils.proofs.WeightLemmas.{mask-count}
use Rattle.limit_stencils.proofs.masks.LimitMasksPointMasks.count.Goals as goal

pub returns-clause-count : goal.returns-clause-count
returns-clause-count c = c.points.ensures ∙ sym (mask-count c.self.inside.level.now c.args.self.now c.self.view_is)
