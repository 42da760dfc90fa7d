use Rattle.std.proofs.Common.{◌≡◌, ◌+◌, ◌*◌, ◌<◌, ◌^◌}
use Rattle.obj_out.proofs.rounding.decimals_in_turn.Given as goal

-- the decimals so far are the quotient, and what is left is its remainder
abbrev pub invariant-loop : goal.invariant-loop
invariant-loop l = record {
  whole : l.units * l.den + l.left ≡ l.rest * 10 ^ l.counter;
  below : l.left < l.den;
  units : l.units < 10 ^ l.counter;
  small : l.units < 1000000000000000000;
}
