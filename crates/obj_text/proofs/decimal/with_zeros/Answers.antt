use Rattle.std.proofs.Common.{arith}
use Rattle.obj_text.proofs.DecimalLemmas.{zeros-far, tens-fit}
use Rattle.obj_text.proofs.decimal.with_zeros.Goals as goal

pub returns-then-zeros-gt37 : goal.returns-then-zeros-gt37
returns-then-zeros-gt37 c = zeros-far c.args.amount c.args.zeros (omega arith) (omega arith)

pub pow-requires : goal.pow-requires
pow-requires c = tens-fit c.args.zeros (omega arith)
