use Rattle.std.proofs.Common.{arith}
use Rattle.table_file.proofs.NumberLemmas.{number-above}
use Rattle.table_file.proofs.number.number_of.Goals as goal

pub returns : goal.returns
returns c = number-above c.args.word.now 38 c.requires (omega (arith, c.if-word-le38.false)) (omega arith)
