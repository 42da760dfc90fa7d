use Rattle.mask_rules.proofs.SmoothLemmas.{smooth-made}
use Rattle.mask_rules.proofs.smooth.smooth_mask.Goals as goal

pub returns-clause-mask : goal.returns-clause-mask
returns-clause-mask c = smooth-made c.args.level.now c.args.v c.requires.smooth c.one_rule.result c.one_rule.ensures.mask c.one_rule.ensures.fault
