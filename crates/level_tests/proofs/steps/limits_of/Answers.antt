use Rattle.level_tests.proofs.LimitLemmas.{all-marked, closed-sharp}
use Rattle.level_tests.proofs.steps.limits_of.Goals as goal

pub limit_table-requires-clause-complete : goal.limit_table-requires-clause-complete
limit_table-requires-clause-complete g c =
    all-marked c.args.level.now.complete c.args.level.now.level.point_count c.facts.ensures.marks c.assert_whole.ensures

pub limit_table-requires-clause-boundary : goal.limit_table-requires-clause-boundary
limit_table-requires-clause-boundary g c = closed-sharp c.args.level.now.level c.assert_closed.ensures
