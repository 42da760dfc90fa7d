use Rattle.std.proofs.Common.{sym}
use Rattle.patch_bspline.proofs.MaskLemmas.{seen-count}
use Rattle.patch_bspline.proofs.masks.PatchMasksPointMasks.count.Goals as goal

pub returns-clause-count : goal.returns-clause-count
returns-clause-count c = sym (seen-count c.self.inside.level.now c.self.inside.face c.self.inside.grid c.args.self.now c.self.view_is)
