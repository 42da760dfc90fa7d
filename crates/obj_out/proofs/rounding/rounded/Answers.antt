use Rattle.std.proofs.Common.{◌∙◌}
use Rattle.obj_out.proofs.RoundingLemmas.{rounded-up, rounded-down}
use Rattle.obj_out.proofs.rounding.rounded.Goals as goal

pub returns-then-up-clause-value : goal.returns-then-up-clause-value
returns-then-up-clause-value c =
    let cut = c.decimals_of-cut.ensures in
    c.unit_more.ensures.value
    ∙ rounded-up c.args.amount c.args.den c.args.digits _ _ _ _ _ c.quotient-whole.ensures cut.below cut.whole c.last_place-last.ensures c.rounds_up-up.ensures c.if-up.true

pub returns-else-up-clause-value : goal.returns-else-up-clause-value
returns-else-up-clause-value c =
    let cut = c.decimals_of-cut.ensures in
    rounded-down c.args.amount c.args.den c.args.digits _ _ _ _ _ c.quotient-whole.ensures cut.below cut.whole c.last_place-last.ensures c.rounds_up-up.ensures c.if-up.false
