use Rattle.channel_tests.proofs.ControlLemmas.{base-of}
use Rattle.channel_tests.proofs.base.level_of.Goals as goal

pub returns-clause-base : goal.returns-clause-base
returns-clause-base g c = base-of c.args.mesh.now c.in_ok-level.level c.in_ok-level.ensures.checked c.assert_few.ensures

pub returns-clause-level : goal.returns-clause-level
returns-clause-level g c = c.in_ok-level.ensures.checked.level_is
