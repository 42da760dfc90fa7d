-- The text is that of the definitions, whose numbers are written as std writes them.
use Rattle.std.proofs.Common.{◌<◌, ◌^◌, arith}
use Rattle.number_laws.proofs.DecimalLemmas.{decimal-number_text}
use Rattle.row_arrays.proofs.number_fault.NumberFaultDisplay.fmt.Goals as goal

pub returns-clause-writes : goal.returns-clause-writes
returns-clause-writes g c = λ plain ok.
    let short : c.args.self.now.place < 10 ^ 64 = omega arith in
    rw (decimal-number_text c.args.self.now.place short) at (c.write.ensures.writes plain ok)
