use Rattle.std.proofs.Common.{◌≤◌, ◌+◌, arith}
use Rattle.obj_out.proofs.RoundingLemmas.{next-whole, next-units, next-small}
use Rattle.obj_out.proofs.rounding.decimals_in_turn.Goals as goal

pub loop-preserved : goal.loop-preserved
loop-preserved c =
    let turns : c.loop.counter + 1 ≤ 18 = omega arith in
    let units = next-units c.loop.units c.next_digit-next.result.quotient c.loop.counter c.loop.invariant.units c.next_digit-next.ensures.digit in
    record {
      whole = next-whole c.loop.units c.args.den c.loop.left c.args.rest c.next_digit-next.result.quotient c.next_digit-next.result.rest c.loop.counter c.loop.invariant.whole c.next_digit-next.ensures.whole;
      below = c.next_digit-next.ensures.below;
      units = units;
      small = next-small _ _ units turns;
    }
