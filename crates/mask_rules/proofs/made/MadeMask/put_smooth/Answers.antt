use Rattle.mask_rules.proofs.PlainLemmas.{plain-joined}
use Rattle.mask_rules.proofs.made.MadeMask.put_smooth.Goals as goal

pub returns : goal.returns
returns c = plain-joined c.args.level.now c.args.v c.facts.ensures c.requires.known c.requires.smooth c.put_around.new.self c.put_around.ensures
