use Rattle.std.proofs.lemmas.Grind.{common_steps}
use Rattle.std.proofs.Common.{arith}
use Rattle.number_width.proofs.list.widened.Goals as goal

-- asked for by name, so that a body that breaks it is refused at once
pub loop-number-preserved : goal.loop-number-preserved
loop-number-preserved c = grind (arith, common_steps)
