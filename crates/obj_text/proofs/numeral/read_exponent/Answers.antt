use Rattle.std.proofs.lemmas.Grind.{common_steps}
use Rattle.std.proofs.Common.{arith}
use Rattle.obj_text.proofs.numeral.read_exponent.Goals as goal

-- asked for by name, so that a body that breaks it is refused at once
pub returns-in_ok-amount-in-len1-up : goal.returns-in_ok-amount-in-len1-up
returns-in_ok-amount-in-len1-up c = grind (arith, common_steps)
