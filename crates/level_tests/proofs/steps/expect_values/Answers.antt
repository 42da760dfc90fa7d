use Rattle.level_tests.proofs.ValueLemmas.{can-refine, good-rows}
use Rattle.level_tests.proofs.steps.expect_values.Goals as goal

pub refine_values-requires-clause-child : goal.refine_values-requires-clause-child
refine_values-requires-clause-child g c =
    can-refine c.args.level.now c.args.child.now c.requires.child c.facts.ensures c.requires.whole c.assert_closed.ensures

pub refine_values-requires-clause-good : goal.refine_values-requires-clause-good
refine_values-requires-clause-good g c = good-rows _ c.assert_near.ensures
