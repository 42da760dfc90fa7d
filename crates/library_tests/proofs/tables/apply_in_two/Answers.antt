use Rattle.std.proofs.Common.{length, arith}
use Rattle.library_tests.proofs.StepLemmas.{in-two}
use Rattle.library_tests.proofs.tables.apply_in_two.Goals as goal

pub returns : goal.returns
returns g c =
    in-two c.args.table.now c.args.split c.rows.result c.args.steps.now c.apply_range.new.steps c.apply_range-2.new.steps c.rows.ensures c.apply_range.ensures.steps c.apply_range-2.ensures.steps
    (c.ranges_cover_the_table.ensures.together c.args.table.now 0 c.args.split (length c.args.table.now.rows) (omega arith) c.requires.inside)
    (c.ranges_cover_the_table.ensures.whole c.args.table.now)
