use Rattle.std.proofs.Common.{arith}
use Rattle.sharpness_rules.proofs.RingLemmas.{length-ring, ring-overflows}
use Rattle.sharpness_rules.proofs.halves.HalvesRule.by_chaikin.Goals as goal

pub of_total-requires : goal.of_total-requires
of_total-requires c = record { few = omega (arith, c.in-Ok.ensures.count, length-ring c.args.ring.now) }

pub returns-in-Err : goal.returns-in-Err
returns-in-Err c = ring-overflows c.args.ring.now c.in-Err.ensures
