use Rattle.std.proofs.Common.{rules, ◌≡◌, ◌<◌, ◌≤◌, length}
use Rattle.subdiv_model.specs.Channel.{number_bound}
use Rattle.library_tests.proofs.RowLemmas.{is-row}
use Rattle.library_tests.proofs.tables.assert_row.Goals as goal

pub returns : goal.returns
returns g c =
    let positive : 0 < c.args.den = search rules in
    let short : c.args.den ≤ number_bound = search rules in
    let none : length c.loop-rest.rest.now < 1 = search rules in
    let spent : c.loop-rest.left ≡ 0 = search rules in
    is-row c.args.controls c.args.den c.args.row.now positive short c.loop-rest.next c.loop-rest.left c.loop-rest.rest.now c.loop-rest.invariant none spent
